-- The slot of the side becomes new with the store of its header, before which it was free, and stays new.
use Rattle.std.proofs.Common.{◌≡◌, ◌≢◌, ℕ, ◌+◌, ◌-◌, ◌<◌, Bool, true, false, Option, None, Some, refl, sym, ap, subst}
use Rattle.std.specs.Prelude.{◌==◌, nat_lt, if◌then◌else◌}
use Rattle.image_layout.specs.Places.{segment_words, buckets}
use Rattle.std.proofs.lemmas.Bool.{both_ways, cond_both}
use Rattle.std.proofs.lemmas.Option.{none-some}
use Rattle.op_core.specs.declared.want.Want.{Want}
use Rattle.op_core.specs.declared.want.Want.TheVariants as want
use Rattle.op_core.specs.declared.want.Ans.{Ans}
use Rattle.op_core.specs.declared.want.Ans.TheVariants.{Won, Lost, Passed}
use Rattle.segment_head.specs.HeadWord.{state_in, free}
use Rattle.map_model.specs.declared.call.Call.{Call}
use Rattle.world.specs.declared.site.Site.{Site}
use Rattle.world.specs.Ground.{Ground, IsGround}
use Rattle.world.specs.Views.{View}
use Rattle.world.specs.Wants.{answer_to, word_of}
use Rattle.world.specs.areas.Kinds.{moves}
use Rattle.world.specs.areas.Rows.{news}
use Rattle.world.specs.StepKinds.{of_structure}
use Rattle.rounds.specs.declared.rounds.Rounds.{Rounds}
use Rattle.rounds.specs.Steps.{rounds_stores, rounds_wanted, rounds_taken}
use Rattle.rounds.specs.Steps as round
use Rattle.rounds.proofs.Events.{events_end, store_wanted}
use Rattle.enclose_op.specs.declared.give.Give.{Give}
use Rattle.enclose_op.specs.Giving.{given}
use Rattle.enclose_op.specs.Whole.{IsOf}
use Rattle.split_op.specs.declared.batch.Batch.{Batch}
use Rattle.split_op.specs.declared.batch.Batch.TheVariants.{Empty, Link, Mark, New, Copy}
use Rattle.split_op.specs.declared.step.SplitEnd.{SplitEnd}
use Rattle.split_op.specs.declared.step.SplitStep.{SplitStep}
use Rattle.split_op.specs.declared.step.SplitStep.TheVariants.{Take, Search, Count, Return, Look, Put, Release, Back, Ended}
use Rattle.split_op.specs.declared.op.SplitOp.{SplitOp}
use Rattle.split_op.specs.Copied.{side_head}
use Rattle.way.specs.Ways.{slot_word}
use Rattle.split_op.specs.Batches.{after_empty, copied_from, due, after}
use Rattle.split_op.specs.Steps.{last_slot, searched, finished, put_by, batch_after, stored, given_to, wanted_in, next_in}
use Rattle.split_op.specs.Fits.{put_kind, kind_at, is_copied_end, hands_on_at, IsPutting, SuitsStep}
use Rattle.split_op.specs.SplitPart.{is_new_batch, is_new_at, TakesFreeSlot, NewSlotStays}
use Rattle.split_op.proofs.SplitIsPart.{passes}

-- ---- batches before that store, and behind it
-- neither with a batch nor behind it the slot is new, or with it and behind it
abbrev IsBefore : Batch → Type 0
IsBefore batch = (is_new_batch batch ≡ false) × (is_new_at (finished batch) ≡ false)

abbrev IsBehind : Batch → Type 0
IsBehind batch = (is_new_batch batch ≡ true) × (is_new_at (finished batch) ≡ true)

-- what is so of a batch and behind it is so of the next step
by_batch : (is : Bool) (some : Option Want) (batch : Batch) (rounds : Rounds) → is_new_batch batch ≡ is → is_new_at (finished batch) ≡ is → is_new_at (put_by some batch rounds) ≡ is
by_batch is (Some w) batch rounds now later = now
by_batch is None batch rounds now later = later

module _ (op : SplitOp) where
  -- a batch that comes after one before is one before
  before_after : (batch : Batch) → IsBefore batch → IsBefore (after op.copied op.locks batch)
  before_after (Empty k) b = cond_both (nat_lt k segment_words) (Empty (after_empty op.locks k)) (Empty k) IsBefore (λ _. (refl, refl)) (λ _. (refl, refl))
  before_after (Link s) b = (refl, refl)
  before_after (Mark s) b = (refl, refl)
  before_after (New s) b = absurd (let z : true ≡ false = b.1 in cc)
  before_after (Copy k) b = absurd (let z : true ≡ false = b.1 in cc)

  behind_after : (batch : Batch) → IsBehind batch → IsBehind (after op.copied op.locks batch)
  behind_after (New s) b = (refl, refl)
  behind_after (Copy k) b = cond_both (nat_lt k segment_words) (Copy (copied_from op.copied.words (k + 1))) (Copy k) IsBehind (λ _. (refl, refl)) (λ _. (refl, refl))
  behind_after (Empty k) b = absurd (let z : false ≡ true = b.1 in cc)
  behind_after (Link s) b = absurd (let z : false ≡ true = b.1 in cc)
  behind_after (Mark s) b = absurd (let z : false ≡ true = b.1 in cc)

  module _ (batch : Batch) (rounds : Rounds) where
    before_stored : IsBefore batch → is_new_at (stored op batch rounds) ≡ false
    before_stored b =
        let next = cond_both (rounds_stores rounds (due op.copied op.locks batch)) (after op.copied op.locks batch) batch IsBefore (λ _. before_after batch b) (λ _. b) in
        by_batch false _ (batch_after op batch rounds) _ next.0 next.1

    behind_stored : IsBehind batch → is_new_at (stored op batch rounds) ≡ true
    behind_stored b =
        let next = cond_both (rounds_stores rounds (due op.copied op.locks batch)) (after op.copied op.locks batch) batch IsBehind (λ _. behind_after batch b) (λ _. b) in
        by_batch true _ (batch_after op batch rounds) _ next.0 next.1

  -- ---- it stays new
  behind_of : (batch : Batch) → is_new_batch batch ≡ true → IsBehind batch
  behind_of (New s) is = (is, refl)
  behind_of (Copy k) is = (refl, refl)
  behind_of batch is = absurd (cc)

  put_stays : (batch : Batch) (rounds : Rounds) (a : Ans) → is_new_batch batch ≡ true → is_new_at (next_in op (Put batch rounds) a).step ≡ true
  put_stays batch rounds Passed is = behind_stored batch rounds (behind_of batch is)
  put_stays batch rounds a is = is

  release_stays : (a : Ans) → is_new_at (next_in op Release a).step ≡ true
  release_stays Passed = by_batch true _ (Copy (copied_from op.copied.words 32)) _ refl refl
  release_stays a = refl

  stays_at : (s : SplitStep) (a : Ans) → is_new_at s ≡ true → is_new_at (next_in op s a).step ≡ true
  stays_at (Put batch rounds) a is = put_stays batch rounds a is
  stays_at Release a is = release_stays a
  stays_at (Ended end) a is = is
  stays_at s a is = absurd (cc)

-- ---- with which event it becomes new
module _ (site : Ground) (ground : IsGround site) (here : Site) (call : Call) (op : SplitOp) (is : IsOf site here call op.copied.whole) (before v : View) where
  abbrev Suits : SplitStep → Type 0
  Suits step = SuitsStep site here call op.copied op.locks step v

  abbrev Takes : SplitStep → Type 0
  Takes step = (slot : ℕ) × (slot < site.shape.segments) × (head : ℕ) × (kind_at op step ≡ of_structure (moves (news op.copied.whole.segment) slot head))

  abbrev next_step : SplitStep → ℕ → SplitStep
  next_step step n = (next_in op step (answer_to (wanted_in op step) n)).step

  -- where it is not new behind the event, there is no such one
  none : (step : SplitStep) (n : ℕ) → is_new_at (next_step step n) ≡ false → is_new_at (next_step step n) ≡ true → Takes step
  none step n old new = absurd (both_ways (is_new_at (next_step step n)) old new)

  take_old : (t : Bool) (n : ℕ) → is_new_at (next_in op Take (if t then Won else Lost n)).step ≡ false
  take_old true n = refl
  take_old false n = refl

  search_old : (slot n : ℕ) → is_new_at (searched op slot n).step ≡ false
  search_old slot n = cond_both (state_in n == free) _ _ (λ (o : SplitOp). is_new_at o.step ≡ false) (λ _. refl)
      (λ _. cond_both (nat_lt slot (last_slot op.copied.whole.site.geometry)) _ _ (λ (o : SplitOp). is_new_at o.step ≡ false) (λ _. refl) (λ _. refl))

  look_old : (b : ℕ) → is_new_at (if nat_lt b (buckets - 1) then Look (b + 1) else Put (Empty 2) round.begun) ≡ false
  look_old b = cond_both (nat_lt b (buckets - 1)) (Look (b + 1)) (Put (Empty 2) round.begun) (λ (s : SplitStep). is_new_at s ≡ false) (λ _. refl) (λ _. refl)

  given_old : (more : Option Give) (end : SplitEnd) → is_copied_end end ≡ false → is_new_at (given_to more end) ≡ false
  given_old (Some more) end bare = refl
  given_old None end bare = bare

  back_old : (give : Give) (end : SplitEnd) (a : Ans) → is_copied_end end ≡ false → is_new_at (next_in op (Back give end) a).step ≡ false
  back_old give end Passed bare = given_old (given give) end bare
  back_old give end a bare = refl

  -- the store of the header
  module _ (rounds : Rounds) (s : IsPutting site here call op.copied op.locks (New false) rounds v) where
    abbrev coming : Option (ℕ × ℕ)
    coming = due op.copied op.locks (New false)

    -- while it is still to come, the slot is not new
    still_old : (some : Option Want) → rounds_wanted (rounds_taken rounds coming) coming ≡ some → is_new_at (put_by some (New false) (rounds_taken rounds coming)) ≡ false
    still_old (Some w) at = refl
    still_old None at = absurd (none-some _ (sym (events_end (rounds_taken rounds coming) coming at).1))

    new_by : (t : Bool) → rounds_stores rounds coming ≡ t
        → is_new_at (put_by (rounds_wanted (rounds_taken rounds coming) (due op.copied op.locks (if t then New true else New false))) (if t then New true else New false) (rounds_taken rounds coming)) ≡ true
        → Takes (Put (New false) rounds)
    new_by true stores new = (
      op.copied.side,
      s.splits.slot.slot,
      side_head op.copied.whole,
      ap (put_kind op (New false)) (store_wanted rounds (slot_word op.copied.whole.site.geometry op.copied.side 1) (side_head op.copied.whole) stores),
    )
    new_by false waits new = absurd (both_ways _ (still_old (rounds_wanted (rounds_taken rounds coming) coming) refl) new)

  put_takes : (batch : Batch) (rounds : Rounds) → IsPutting site here call op.copied op.locks batch rounds v → is_new_batch batch ≡ false → is_new_at (stored op batch rounds) ≡ true → Takes (Put batch rounds)
  put_takes (New false) rounds s old new = new_by rounds s (rounds_stores rounds (due op.copied op.locks (New false))) refl new
  put_takes (New true) rounds s old new = absurd (let z : true ≡ false = old in cc)
  put_takes (Copy k) rounds s old new = absurd (let z : true ≡ false = old in cc)
  put_takes (Empty k) rounds s old new = absurd (both_ways _ (before_stored op (Empty k) rounds (refl, refl)) new)
  put_takes (Link stored) rounds s old new = absurd (both_ways _ (before_stored op (Link stored) rounds (refl, refl)) new)
  put_takes (Mark stored) rounds s old new = absurd (both_ways _ (before_stored op (Mark stored) rounds (refl, refl)) new)

  takes_at : (step : SplitStep) (n : ℕ) → Suits step → wanted_in op step ≢ want.Done → is_new_at step ≡ false → is_new_at (next_step step n) ≡ true → Takes step
  takes_at Take n s asks old new = none Take n (take_old (n == 0) n) new
  takes_at (Search slot) n s asks old new = none (Search slot) n (search_old slot n) new
  takes_at Count n s asks old new = none Count n refl new
  takes_at (Return count) n s asks old new = none (Return count) n refl new
  takes_at (Look b) n s asks old new = none (Look b) n (look_old b) new
  takes_at (Put batch rounds) n s asks old new =
      put_takes batch rounds s old (subst (λ (a : Ans). is_new_at (next_in op (Put batch rounds) a).step ≡ true) (passes site ground here call op is before v batch rounds s n) new)
  takes_at Release n s asks old new = absurd (let z : true ≡ false = old in cc)
  takes_at (Back give end) n s asks old new = none (Back give end) n (back_old give end _ s.1) new
  takes_at (Ended end) n s asks old new = absurd (asks refl)

pub takes_free_slot : TakesFreeSlot
takes_free_slot site here call words views j op before v h at s asks old new =
    takes_at site h.site_is here call op s.stands.is before v op.step (words (word_of site.shape (wanted_in op op.step))) s.stands.view asks old new

-- ---- where it is handed on
hands_end : (s : SplitStep) → hands_on_at s ≡ true → is_new_at s ≡ true
hands_end (Ended end) hands = hands
hands_end s hands = absurd (cc)

pub new_slot_stays : NewSlotStays
new_slot_stays = record {
  begins = λ e words. refl;
  stays = λ op a is. stays_at op op.step a is;
  hands = λ op hands. hands_end op.step hands;
}
