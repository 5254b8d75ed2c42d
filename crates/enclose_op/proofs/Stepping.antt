-- Each step of an enclosing: its event is of its kind, which the view may take, and the view after it suits the next step.
use Rattle.std.proofs.Common.{◌≡◌, ◌≢◌, ℕ, ◌+◌, ◌%◌, ◌^◌, ◌<◌, Bool, true, false, Option, Some, None, ◌∷◌, slice_index, inl, inr, refl, sym, ap, ◌∙◌, subst, arith}
use Rattle.std.specs.Prelude.{◌==◌, nat_lt, if◌then◌else◌}
use Rattle.std.proofs.lemmas.Bool.{eqb-true, eqb-false, ltb-true, ltb-false}
use Rattle.op_core.specs.declared.want.Want.TheVariants as want
use Rattle.op_core.specs.declared.want.Ans.{Ans}
use Rattle.hash_word.specs.Hash.{home_of}
use Rattle.segment_head.specs.HeadWord.{depth_in}
use Rattle.trace.specs.Events.{Words}
use Rattle.image_layout.specs.Places.{Shape, buckets, last_of_buckets}
use Rattle.image_layout.specs.Volatile.{counter_word}
use Rattle.way.specs.Ways.{bucket_word}
use Rattle.whole_segment.specs.Room.{has_no_room}
use Rattle.map_model.specs.declared.call.Call.{Call}
use Rattle.map_model.specs.declared.change.Effect.{Effect}
use Rattle.map_model.specs.declared.change.Effect.TheVariants.{Insert, Update, Remove}
use Rattle.map_model.specs.declared.entry.Reply.{Reply}
use Rattle.map_model.specs.declared.entry.Reply.TheVariants.{Deep, Spent}
use Rattle.map_model.specs.Changes.{doing, call_of}
use Rattle.map_model.specs.Legal.{IsInsert, IsChange}
use Rattle.world.specs.declared.site.Site.{Site}
use Rattle.world.specs.Ground.{Ground}
use Rattle.world.specs.Views.{View}
use Rattle.world.specs.Wants.{answer_to, word_of}
use Rattle.world.specs.Kinds.{with_reply, next_entry}
use Rattle.world.specs.Conditions.{IsNewest}
use Rattle.world.specs.areas.Splitting.{KnowsBuckets}
use Rattle.world.specs.StepKinds.{wanted_of, view_by, MayTake}
use Rattle.phase.specs.Giving.{IsLocated}
use Rattle.enclose_op.specs.declared.enclosed.Enclosed.{Enclosed}
use Rattle.enclose_op.specs.declared.give.Give.{Give as Giving}
use Rattle.enclose_op.specs.declared.op.NotEnclosed.{NotEnclosed}
use Rattle.enclose_op.specs.declared.op.NotEnclosed.TheVariants.{Room}
use Rattle.enclose_op.specs.declared.op.EncloseStep.{EncloseStep}
use Rattle.enclose_op.specs.declared.op.EncloseStep.TheVariants.{Guard, Lock, Head, Fill, CountSpent, CountDeep, Give, Ended, Whole}
use Rattle.enclose_op.specs.declared.op.EncloseOp.{EncloseOp}
use Rattle.enclose_op.specs.Whole.{kept_words, kept_first, IsOf}
use Rattle.enclose_op.specs.Giving.{given}
use Rattle.enclose_op.specs.Steps.{go, giving as backing, given_by, word_after, decided, with_word, wanted_in, next_in}
use Rattle.enclose_op.specs.Fits.{kind_at, HoldsPart, IsHeaded, IsCrammed, SuitsStep}
use Rattle.enclose_op.specs.GiveLaws.{SuitsNext}
use Rattle.enclose_op.specs.EnclosePart.{EnclosureStands}
use Rattle.enclose_op.proofs.Held.{no_whole, hold_same}
use Rattle.enclose_op.proofs.Backing.{quiet_still, give_suits, give_wants, give_may, give_next}
use Rattle.enclose_op.proofs.Giving.{give_answer}
use Rattle.enclose_op.proofs.Locking.{guard_wants, guard_may, guard_stands, lock_wants, lock_may, lock_stands}
use Rattle.enclose_op.proofs.Filling.{is_with_word, head_may, head_stands, fill_may, fill_headed, fill_next, all_known}
use Rattle.enclose_op.proofs.causes.Causing.{IsCrowd, knows_deep}
use Rattle.enclose_op.proofs.Owning.{stands_once, covers_own, less_deep}

-- an insert is a change
changes : (key : ℕ) (d : Effect) → IsInsert (doing key d) → IsChange (doing key d)
changes key (Insert value) is = tt
changes key (Update value) is = tt
changes key Remove is = tt

module _ (site : Ground) (here : Site) (call : Call) (e : Enclosed) (is : IsOf site here call e) (v : View) where
  abbrev l : IsLocated site e.site e.segment
  l = is.located

  abbrev Suited : EncloseStep → Type 0
  Suited s = SuitsStep site here call e s v

  abbrev Stood : EncloseOp → View → Type 0
  Stood op u = EnclosureStands site here call op u

  abbrev next_view : EncloseStep → ℕ → View
  next_view s n = view_by site.shape (kind_at e s) n v

  -- ---- each event is of its kind
  counts : want.Load (counter_word e.site.geometry) ≡ want.Load (counter_word site.shape)
  counts = ap (λ (g : Shape). want.Load (counter_word g)) l.shape

  pub wants : (s : EncloseStep) → Suited s → wanted_in e s ≢ want.Done → wanted_in e s ≡ wanted_of site.shape (kind_at e s)
  wants Guard s asks = guard_wants site here call e is v
  wants (Lock b take) s asks = lock_wants site here call e is v b take s
  wants Head s asks = refl
  wants (Fill at) s asks = refl
  wants (CountSpent b) s asks = counts
  wants CountDeep s asks = counts
  wants (Give give end) s asks = give_wants site e l v give s
  wants (Ended end) s asks = absurd (asks refl)
  wants Whole s asks = absurd (asks refl)

  -- ---- which may be taken
  crowd_of : (s : IsCrammed site e v) → IsCrowd site e v
  crowd_of s = record {
    located = l;
    hashed = is.hashed;
    leads = s.headed.head.leads;
    locks = λ b near. (slice_index e.locks b + 1, s.headed.taking.part.locks.has b (omega arith) near);
    header = s.headed.header.known;
    words = s.buckets_are;
    planned = s.headed.taking.part.quiet.planned;
    moving = s.headed.taking.part.quiet.moving;
    no_room = s.no_room;
  }

  pub may : (s : EncloseStep) → Suited s → MayTake site (kind_at e s) v
  may Guard s = guard_may site here call e is v s
  may (Lock b take) s = lock_may site here call e is v b take s
  may Head s = head_may site here call e is v s
  may (Fill at) s = fill_may site here call e is v at s
  may (CountSpent b) s = (
    (refl, inl (λ a. changes e.change.key e.change.effect is.insert), (λ m words new known. tt), (λ spent. s.2), (λ full. absurd (cc))),
    no_whole e v s.0.areas,
  )
  may CountDeep s = (
    (refl, inl (λ a. is.insert), knows_deep site e v (crowd_of s.0) s.1, (λ spent. absurd (cc)), (λ full. absurd (cc))),
    no_whole e v s.0.headed.taking.part.areas,
  )
  may (Give give end) s = give_may site e l v give s
  may (Ended end) s = (tt, tt)
  may Whole s = (tt, tt)

  -- ---- after the last word
  module _ (f : Enclosed) (of : IsOf site here call f) (u : View) (words : Words) (new : IsNewest site u words) (h : IsHeaded site f u)
      (known : KnowsBuckets site.shape u f.segment (kept_words f)) where
    crammed : has_no_room (kept_first f) (home_of f.hash) ≡ true → IsCrammed site f u
    crammed room = record { headed = h; buckets_are = known; no_room = room }

    crowd : has_no_room (kept_first f) (home_of f.hash) ≡ true → IsCrowd site f u
    crowd room = record {
      located = of.located;
      hashed = of.hashed;
      leads = h.head.leads;
      locks = λ b near. (slice_index f.locks b + 1, h.taking.part.locks.has b (omega arith) near);
      header = h.header.known;
      words = known;
      planned = h.taking.part.quiet.planned;
      moving = h.taking.part.quiet.moving;
      no_room = room;
    }

    depth_is : f.site.geometry.depth ≡ site.shape.depth
    depth_is = ap (λ (g : Shape). g.depth) of.located.shape

    decided_by : (room deep : Bool) → has_no_room (kept_first f) (home_of f.hash) ≡ room → (depth_in f.head == f.site.geometry.depth) ≡ deep
        → SuitsStep site here call f (if room then (if deep then CountDeep else Whole) else backing buckets Room) u
    decided_by true true r d = (crammed r, eqb-true (depth_in f.head) f.site.geometry.depth d ∙ depth_is)
    decided_by true false r d =
        let c = crowd r in
        record {
          is = of;
          whole = record {
            head = h.head;
            small = h.small;
            shallow = less_deep site f u c words new (λ same. eqb-false (depth_in f.head) f.site.geometry.depth d (same ∙ sym depth_is));
            no_room = r;
            once = stands_once site f u c words new;
            own = covers_own site f u c words new;
          };
          there = h.taking.there;
          areas = h.taking.part.areas;
          locks = h.taking.part.locks;
          header = h.header;
          buckets_are = known;
          known = h.taking.part.known;
          quiet = h.taking.part.quiet;
        }
    decided_by false d r e = give_suits site f 0 buckets u (omega arith) (omega arith) h.taking.part

    pub decided_suits : SuitsStep site here call f (decided f) u
    decided_suits = decided_by (has_no_room (kept_first f) (home_of f.hash)) (depth_in f.head == f.site.geometry.depth) refl refl

  -- ---- what every step leaves
  -- words that may be the newest may be so for who knows one more
  newest_more : (words : Words) (i n : ℕ) → words i ≡ n → IsNewest site v words → IsNewest site (record v { known = (i, n) ∷ v.known }) words
  newest_more words i n found new = record {
    structure = new.structure;
    says = new.says;
    pinned = new.pinned;
    table = new.table;
    knows = λ j x has. elim has [
      | inl same ↦ ap words (ap (λ (p : ℕ × ℕ). p.0) same) ∙ found ∙ sym (ap (λ (p : ℕ × ℕ). p.1) same)
      | inr was ↦ new.knows j x was
    ];
    own = new.own;
    once = new.once;
    exact = new.exact;
    owes = new.owes;
  }

  -- a part that is held is held after a reply
  part_replied : (b : ℕ) (reply : Reply) (n : ℕ) → HoldsPart site e 0 b v → HoldsPart site e 0 b (with_reply v (next_entry v (call_of e.change) reply n false))
  part_replied b reply n part =
      let u : View = with_reply v (next_entry v (call_of e.change) reply n false) in
      record {
        areas = part.areas;
        locks = hold_same site e 0 b v u e refl refl refl part.locks;
        known = part.known;
        quiet = quiet_still v u refl refl refl refl refl part.quiet;
      }

  -- a word of a bucket
  fill_by : (at n : ℕ) (s : Suited (Fill at)) (small : n < 2 ^ 64) (words : Words) → words (bucket_word e.site.geometry e.segment 0 + at) ≡ n → IsNewest site v words → (t : Bool) → nat_lt at last_of_buckets ≡ t
      → SuitsStep site here call (with_word e at n) (if t then Fill (word_after at) else decided (with_word e at n)) (next_view (Fill at) n)
  fill_by at n s small words found new true low = (
    fill_headed site here call e is v at s n small,
    fill_next site here call e is v at s n small (ltb-true at last_of_buckets low) ((at + 1) % 32 == 0) refl,
  )
  fill_by at n s small words found new false high =
      decided_suits (with_word e at n) (is_with_word site here call e is at n) (next_view (Fill at) n) words (newest_more words (bucket_word e.site.geometry e.segment 0 + at) n found new)
      (fill_headed site here call e is v at s n small) (all_known site here call e is v at s n small (ltb-false at last_of_buckets high))

  -- what is given back
  back_to : (more : Option Giving) (end : NotEnclosed) (u : View) → SuitsNext site e more u → Stood (go e (given_by more end)) u
  back_to (Some more) end u next = record { is = is; view = next }
  back_to None end u next = record { is = is; view = next }

  -- ---- THE VIEW after it suits the next step
  pub stands : (s : EncloseStep) (n : ℕ) → Suited s → wanted_in e s ≢ want.Done → n < 2 ^ 64 → (words : Words) → words (word_of site.shape (wanted_in e s)) ≡ n → IsNewest site v words
      → Stood (next_in e s (answer_to (wanted_in e s) n)) (next_view s n)
  stands Guard n s asks small words found new = guard_stands site here call e is v n s
  stands (Lock b take) n s asks small words found new = lock_stands site here call e is v b take s n small
  stands Head n s asks small words found new = head_stands site here call e is v n small s
  stands (Fill at) n s asks small words found new = record { is = is_with_word site here call e is at n; view = fill_by at n s small words found new (nat_lt at last_of_buckets) refl }
  stands (CountSpent b) n s asks small words found new = record {
    is = is;
    view = give_suits site e 0 b (next_view (CountSpent b) n) (omega arith) s.1 (part_replied b Spent n s.0);
  }
  stands CountDeep n s asks small words found new = record {
    is = is;
    view = give_suits site e 0 buckets (next_view CountDeep n) (omega arith) (omega arith) (part_replied buckets Deep n s.0.headed.taking.part);
  }
  stands (Give give end) n s asks small words found new =
      subst (λ (a : Ans). Stood (next_in e (Give give end) a) (next_view (Give give end) n)) (sym (give_answer e give n)) (back_to (given give) end (next_view (Give give end) n) (give_next site e l v give n s))
  stands (Ended end) n s asks small words found new = absurd (asks refl)
  stands Whole n s asks small words found new = absurd (asks refl)
