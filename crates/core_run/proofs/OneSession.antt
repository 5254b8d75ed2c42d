-- A run is a session.
use Rattle.std.proofs.Common.{◌≡◌, ℕ, zero, suc, ◌+◌, ◌*◌, ◌^◌, ◌<◌, ◌≤◌, ◌⊎◌, true, List, [], ◌∷◌, length, Option, None, Some, refl, sym, ap, ◌∙◌, subst, inl, inr, arith}
use Rattle.std.specs.Prelude.{Contains, not, is_some, slice_index}
use Rattle.std.specs.List.{AllByRecursion}
use Rattle.trace.specs.Media.{IsPossible}
use Rattle.image_layout.specs.Places.{head_at, bucket_at, buckets, words_of}
use Rattle.bucket_meta.specs.Bucket.{lock_version}
use Rattle.map_model.specs.declared.entry.Entry.{Entry}
use Rattle.map_model.specs.declared.entry.Reply.TheVariants.{Full, Spent}
use Rattle.map_model.specs.Map.{Map}
use Rattle.map_model.specs.Weave.{draws, weave}
use Rattle.map_model.specs.Legal.{replay}
use Rattle.sound_image.specs.Segments.{frame_of}
use Rattle.session.specs.Left.{HasPairsOf}
use Rattle.segment_table.proofs.stores.Moved.{live_same}
use Rattle.session.specs.Transcript.{transcript_of}
use Rattle.session.specs.Session.{IsSession, IsClosed, HasSpentBucket}
use Rattle.world.specs.Ground.{HasSpentLock}
use Rattle.engine.specs.Core.{tolds_of, histories}
use Rattle.engine.specs.Good.{HasNoFreeSlot}
use Rattle.core_run.specs.declared.keeper.Keeper.TheVariants.{Closed}
use Rattle.core_run.specs.State.{State}
use Rattle.core_run.specs.Run.{cut_of, medium_words}
use Rattle.core_run.specs.Running.{Setup, IsSetup, start_of, IsRunning}
use Rattle.core_run.specs.States.{entries_so_far, IsGoodMoment, IsGoodMedium, MomentsAreGood, IsClosedWell, ClosedIsClosed, ToldsFollow}
use Rattle.core_run.specs.Ends.{RunsAreWell}
use Rattle.core_run.specs.Opening.{opening_of}
use Rattle.core_run.specs.Sessions.{end_state, RunsAreSessions}
use Rattle.core_run.proofs.Opening.{opening-HasPairsOf}
use Rattle.core_run.proofs.events.Newest.{IsNewest, is_newest}
use Rattle.core_run.proofs.Leaving.{words_listed, newest_length, cut_length, cut_is_possible}

-- ---- what is left
-- what holds of each element holds of one that is contained
holds_of : {X : Type 0} (P : X → Type 0) (xs : List X) (x : X) → AllByRecursion P xs → Contains xs x → P x
holds_of P [] x all (k, lt, is) = absurd (omega arith)
holds_of P (y ∷ ys) x all (zero, lt, is) = subst P is all.0
holds_of P (y ∷ ys) x all (suc k, lt, is) = holds_of P ys x all.1 (k, omega arith, is)

module _ (moments : MomentsAreGood) (closed : ClosedIsClosed) (follow : ToldsFollow) (t : Setup) (is : IsSetup t) (opening : Map)
    (has : HasPairsOf t.shape (start_of t) opening) (s : State) (p : IsRunning t s) where
  -- the words that are left
  abbrev left_by : Option ℕ → List ℕ
  left_by cut = medium_words t.shape (start_of t) s.core cut

  newest : IsNewest t s.core
  newest = is_newest t s.keeper s.core p

  good : IsGoodMoment t opening s
  good = moments t s opening is p has

  is_closed : s.keeper ≡ Closed → IsClosedWell t opening s.core
  is_closed q = closed t s opening is p q has

  left_length : (cut : Option ℕ) → length (left_by cut) ≡ words_of t.shape
  left_length None = newest_length t.shape s.core.words
  left_length (Some choice) = cut_length t.shape (start_of t) s.core newest choice

  left_possible : (cut : Option ℕ) → (cut ≡ None → s.keeper ≡ Closed) → IsPossible (words_of t.shape) (start_of t) s.core.trace (slice_index (left_by cut))
  left_possible None at_none = (is_closed (at_none refl)).possible
  left_possible (Some choice) at_none = cut_is_possible t.shape (start_of t) s.core newest choice

  good_medium : (cut : Option ℕ) → (cut ≡ None → s.keeper ≡ Closed) → IsGoodMedium t opening s.core (left_by cut)
  good_medium cut at_none = good.media (left_by cut) (left_length cut) (left_possible cut at_none)

  after_close : (cut : Option ℕ) → (cut ≡ None → s.keeper ≡ Closed) → not (is_some cut) ≡ true
      → IsClosed t.shape (left_by cut) t.scripts (tolds_of s.core) (replay opening (weave (histories s.core)))
  after_close None at_none q = let c = is_closed (at_none refl) in record { answered = c.answered; clean = c.clean; pairs = c.pairs }
  after_close (Some choice) at_none q = absurd (let z = q in cc)

  -- a lock that is spent is that of a bucket of a live segment
  lock_within : (first s b n : ℕ) → s < n → b < buckets → first + 2144 * s + 32 + 32 * b < first + 2144 * n
  lock_within first s b n q h = omega (arith, q, h)

  spent_bucket : HasSpentLock t.shape s.core.words → HasSpentBucket t.shape (left_by None)
  spent_bucket (lock, ((q, b, slot, within, at, lives), is_last)) = record {
    s = q;
    b = b;
    slot = slot;
    bucket = within;
    live = live_same (frame_of t.shape s.core.words) (frame_of t.shape (slice_index (left_by None))) q (words_listed t.shape s.core.words (head_at t.shape q + 1) (omega (arith, slot))) lives.live;
    spent = ap (λ w. lock_version w)
        (words_listed t.shape s.core.words (bucket_at t.shape q b) (lock_within _ q b t.shape.segments slot within)
        ∙ ap (λ i. s.core.words i) (sym at) ∙ is_last);
  }

  spent : (cut : Option ℕ) → (cut ≡ None → s.keeper ≡ Closed) → (e : Entry) → Contains (entries_so_far s.core) e → e.reply ≡ Spent → draws (entries_so_far s.core) < 2 ^ 63
      → (true ≡ true → not (is_some cut) ≡ true) → HasSpentBucket t.shape (left_by cut)
  spent None at_none e among refused few ended =
      elim (holds_of (λ (x : Entry). x.reply ≡ Spent → (2 ^ 63 ≤ draws (entries_so_far s.core)) ⊎ HasSpentLock t.shape s.core.words) (entries_so_far s.core) e good.spent among refused) [
        | inl many ↦ absurd (omega (arith, many, few))
        | inr lock ↦ spent_bucket lock
      ]
  spent (Some choice) at_none e among refused few ended = absurd (let z = ended refl in cc)

  pub is_session : (cut : Option ℕ) → (cut ≡ None → s.keeper ≡ Closed)
      → IsSession t.shape t.first (left_by cut) t.scripts (record { closed = not (is_some cut); scheduled = true }) (transcript_of (tolds_of s.core))
  is_session cut at_none =
      let medium = good_medium cut at_none in
      record {
        tolds = tolds_of s.core;
        printed = refl;
        scripted = follow t s is p;
        opening = opening;
        opening_pairs = has;
        legal = good.legal;
        sound = medium.sound;
        same_shape = medium.same_shape;
        after_close = after_close cut at_none;
        after_cut = λ _. medium.left;
        had_no_room = good.had_no_room;
        none_free = λ e among full slot within is_free.
            holds_of (λ (x : Entry). x.reply ≡ Full → HasNoFreeSlot t.shape (start_of t) s.core) (entries_so_far s.core) e good.full among full
            (slice_index (left_by cut)) (left_possible cut at_none) slot within is_free;
        spent = spent cut at_none;
      }

-- A RUN IS A SESSION
pub runs_are_sessions : RunsAreWell → MomentsAreGood → ClosedIsClosed → ToldsFollow → RunsAreSessions
runs_are_sessions ends moments closed follow t lines is =
    let run = ends t lines is in
    is_session moments closed follow t is (opening_of t.shape (start_of t)) (opening-HasPairsOf t.shape t.first is.served) (end_state t lines)
    run.is_run.running (cut_of lines) run.is_closed
