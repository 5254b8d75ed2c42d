-- The stores by which a note is taken away leave a view that suits.
use Rattle.std.proofs.Common.{◌≡◌, ◌⊎◌, ℕ, ◌+◌, ◌<◌, ◌≤◌, Bool, true, false, Option, Some, List, [], inl, inr, refl, sym, ap, ◌∙◌, subst, arith}
use Rattle.std.specs.Prelude.{if◌then◌else◌}
use Rattle.trace.specs.Events.{Words, with_word}
use Rattle.map_model.specs.declared.entry.Reply.{Reply}
use Rattle.map_model.specs.declared.entry.Reply.TheVariants as reply
use Rattle.map_model.specs.Changes.{call_of}
use Rattle.bucket_words.specs.Core.{core_of}
use Rattle.world.specs.Ground.{Ground}
use Rattle.world.specs.Views.{Owed, View, Has, At, IsGuarded}
use Rattle.world.specs.Conditions.{IsOwed}
use Rattle.world.specs.Kinds.{of_other_homes, with_store, view_after}
use Rattle.world.specs.Invariant.{Holds}
use Rattle.world.specs.Attempts.{EntersReply}
use Rattle.part.specs.Outcomes.{reply_of}
use Rattle.phase.specs.declared.role.Role.{Role}
use Rattle.phase.specs.declared.role.Role.TheVariants.{Home, Probing}
use Rattle.phase.specs.AreWords.{AreWords}
use Rattle.phase.specs.Giving.{IsHeld, IsOfHeld, HoldsLocks}
use Rattle.phase.specs.Knows.{Knows, HasNoneLoose}
use Rattle.phase.proofs.Handing.{same_more, own_repaid, core_settled}
use Rattle.phase.proofs.locks.Giving.{held_has, held_store, nothing_left}
use Rattle.phase.proofs.locks.Knowing.{known_store}
use Rattle.phase.specs.Buckets.{words_in}
use Rattle.write_op.specs.declared.search.NoteWords.{NoteWords}
use Rattle.write_op.specs.declared.step.Task.{Task}
use Rattle.write_op.specs.declared.step.Seen.{Seen}
use Rattle.phase.specs.declared.ending.Ending.TheVariants as ending
use Rattle.phase.specs.declared.note.NoteWord.{NoteWord}
use Rattle.phase.specs.declared.note.NoteWord.TheVariants.{Mark, Fingers}
use Rattle.write_op.specs.declared.step.WriteStep.TheVariants.{Unnote}
use Rattle.write_op.specs.Search.{unnoted, has_finger}
use Rattle.world.specs.Wants.{word_of}
use Rattle.write_op.specs.Steps.{go, answered, lock_of, note_wanted, unnoted_to}
use Rattle.write_op.specs.Fits.{owed, is_asked, mark_kind, note_kind, words_of_note, HasAll, IsUnnoting, IsIn}
use Rattle.write_op.proofs.keeping.Going.{located, give_suits}
use Rattle.write_op.proofs.finding.Finding.{asked_held}
use Rattle.write_op.proofs.keeping.Entering.{giving_outcome}
use Rattle.write_op.proofs.keeping.Counting.{Goes}
use Rattle.write_op.proofs.permitting.Unnoting.{mark_same_core, fingers_same_core, note_near}

module _ (site : Ground) (task : Task) (is : IsIn site task) (seen : Seen) (before v : View) (words : Words) (views : List View) (j : ℕ) (h : Holds site words views) (at : At views j v)
    (small : (place : Role) → AreWords (words_in seen.buckets place)) where
  abbrev n : NoteWords
  n = unnoted task.hash seen

  abbrev lock : ℕ
  lock = lock_of task seen n.place

  abbrev S : ℕ → Type 0
  S = IsOfHeld task.site task.hash seen.path.segment seen.held

  module _ (part : NoteWord) (u : IsUnnoting site task seen part v) where
    is_owed : IsOwed site.shape words (owed task seen)
    is_owed = h.notes_of_homes.owes j v (owed task seen) at (subst (λ (l : List Owed). Has (owed task seen) l) (sym u.owes) (inl refl))

    place_by : (p : Role) → (p ≡ Home) ⊎ (p ≡ Probing) → IsHeld seen.held p
    place_by p (inl e) = asked_held seen u.all.upto p (ap (is_asked seen) e)
    place_by p (inr e) = asked_held seen u.all.upto p (ap (is_asked seen) e)

    held_note : IsHeld seen.held n.place
    held_note = place_by n.place (note_near site task is seen v part u small words is_owed)

    guard : (k : ℕ) → 1 ≤ k → k < 32 → IsGuarded v.held (lock + k)
    guard k from low = (lock, held_has task.site task.hash seen.path.segment seen.held n.place v u.all.locks held_note, (omega (arith, from), omega (arith, low)))

    in_set : (k : ℕ) → 1 ≤ k → k < 32 → S (lock + k)
    in_set k from low = (n.place, held_note, (omega (arith, from), omega (arith, low)))

    -- a store that keeps the core of its word
    module _ (k x m : ℕ) (from : 1 ≤ k) (low : k < 32) (found : m ≡ words (lock + k))
        (core : core_of site.shape (lock + k) (words_of_note site task seen part (lock + k)) ≡ core_of site.shape (lock + k) x) (os : List Owed) where
      abbrev after : View
      after = with_store site.shape (lock + k) m x v.planned v.moving os v

      known_now : words (lock + k) ≡ words_of_note site task seen part (lock + k)
      known_now = (h.known.knows j v (lock + k) (words_of_note site task seen part (lock + k)) at (u.knows (lock + k) (in_set k from low))).0

      same_core : core_of site.shape (lock + k) m ≡ core_of site.shape (lock + k) x
      same_core = ap (core_of site.shape (lock + k)) (found ∙ known_now) ∙ core

      after_settled : HasNoneLoose after
      after_settled = core_settled site.shape (lock + k) m x v.planned v.moving os v same_core u.settled

      after_locks : HoldsLocks task.site task.hash seen.path.segment seen.held after
      after_locks = held_store task.site task.hash seen.path.segment site.shape seen.held v (lock + k) m x v.planned v.moving os u.all.locks (guard k from low)

      after_all : HasAll site task seen after
      after_all = record { there = u.all.there; pinned = u.all.pinned; locks = after_locks; upto = u.all.upto; visits = u.all.visits; still = u.all.still }

      after_knows : Knows S (with_word (words_of_note site task seen part) (lock + k) x) after
      after_knows = known_store S (words_of_note site task seen part) site.shape (lock + k) m x v.planned v.moving os v u.knows

      -- where nothing is owed any more, the locks go back
      back_goes : (place : ℕ) → os ≡ [] → EntersReply (call_of task.change) (Some (reply.Done, place)) before v → Goes site task before (answered seen place reply.Done) after
      back_goes place none enters = (
        give_suits site task is seen (ending.Replied reply.Done place) after (record {
          located = located site task is seen v.facts u.all.there;
          locks = after_locks;
          quiet = record {
            dirty = nothing_left after.dirty (λ p d. after_settled p (inl d));
            flushed = nothing_left after.flushed (λ p d. after_settled p (inr d));
            planned = u.planned;
            moving = u.all.still;
            owed = none;
          };
        }),
        subst (λ (o : Option (Reply × ℕ)). EntersReply (call_of task.change) o before after) (sym (ap reply_of (giving_outcome seen.held (ending.Replied reply.Done place))))
            (same_more (call_of task.change) before v (Some (reply.Done, place)) after enters refl refl),
      )

    repaid : of_other_homes (owed task seen) v.owed ≡ []
    repaid = ap (of_other_homes (owed task seen)) u.owes ∙ own_repaid (owed task seen)

  -- ---- the metadata word
  mark_by : (u : IsUnnoting site task seen Mark v) (place m : ℕ) → m ≡ words (lock + 1) → EntersReply (call_of task.change) (Some (reply.Done, place)) before v → (t : Bool)
      → Goes site task before (if t then go seen (Unnote Fingers place) else answered seen place reply.Done) (view_after site.shape (mark_kind task seen t (lock + 1) n.mark) m v)
  mark_by u place m found enters true =
      let core = mark_same_core site task is seen v Mark u small words (is_owed Mark u) in (
        record {
          all = after_all Mark u 1 n.mark m (omega arith) (omega arith) found core v.owed;
          chosen = u.chosen;
          leaves = u.leaves;
          knows = after_knows Mark u 1 n.mark m (omega arith) (omega arith) found core v.owed;
          settled = after_settled Mark u 1 n.mark m (omega arith) (omega arith) found core v.owed;
          planned = u.planned;
          owes = u.owes;
        },
        same_more (call_of task.change) before v (Some (reply.Done, place)) (after Mark u 1 n.mark m (omega arith) (omega arith) found core v.owed) enters refl refl,
      )
  mark_by u place m found enters false =
      let core = mark_same_core site task is seen v Mark u small words (is_owed Mark u) in
      back_goes Mark u 1 n.mark m (omega arith) (omega arith) found core (of_other_homes (owed task seen) v.owed) place (repaid Mark u) enters

  pub unnote_goes : (part : NoteWord) (u : IsUnnoting site task seen part v) (place m : ℕ) → m ≡ words (word_of site.shape (note_wanted task seen part n))
      → EntersReply (call_of task.change) (Some (reply.Done, place)) before v
      → Goes site task before (unnoted_to task seen part place) (view_after site.shape (note_kind task seen part n) m v)
  unnote_goes Mark u place m found enters = mark_by u place m found enters (has_finger seen n)
  unnote_goes Fingers u place m found enters =
      back_goes Fingers u 3 n.fingers m (omega arith) (omega arith) found (fingers_same_core site task is seen v Fingers u small words (is_owed Fingers u)) (of_other_homes (owed task seen) v.owed) place (repaid Fingers u) enters
