-- The split of a segment, up to the copies, is a part of a call.
use Rattle.std.proofs.Common.{◌≡◌, ◌≢◌, ℕ, zero, suc, ◌+◌, ◌-◌, ◌*◌, ◌/◌, ◌%◌, ◌^◌, ◌<◌, Bool, true, false, Option, None, Some, List, [], slice_index, inl, inr, refl, sym, ap, ◌∙◌, subst, arith}
use Rattle.std.specs.Prelude.{nat_lt, ◌==◌, ◌||◌, if◌then◌else◌}
use Rattle.enclose_op.proofs.Giving.{give_some, give_answer, give_puts, give_makes, give_power, give_own, give_seen, give_plan, give_in}
use Rattle.segment_head.proofs.Headers.{header_below}
use Rattle.whole_segment.proofs.Zeros.{zeros_small}
use Rattle.std.proofs.lemmas.List.{length-replicate}
use Rattle.std.proofs.lemmas.Option.{none-some, same_Some, cond_some}
use Rattle.std.proofs.lemmas.Bool.{cond_both}
use Rattle.op_core.specs.declared.want.Want.{Want}
use Rattle.op_core.specs.declared.want.Want.TheVariants as want
use Rattle.op_core.specs.declared.want.Ans.{Ans}
use Rattle.op_core.specs.declared.want.Ans.TheVariants.{Won, Lost, Passed}
use Rattle.trace.specs.Events.{Words}
use Rattle.bucket_meta.specs.Bucket.{without_lock}
use Rattle.image_layout.specs.Places.{Shape, buckets, first_segment, segment_words}
use Rattle.image_layout.specs.Volatile.{counter_word, allocation_guard, all_words_of}
use Rattle.map_model.specs.declared.call.Call.{Call}
use Rattle.map_model.specs.declared.entry.Reply.TheVariants.{Full}
use Rattle.segment_head.specs.HeadWord.{version_in, state_in, depth_in, pattern_in, free, splitting, fresh}
use Rattle.world.specs.declared.site.Site.{Site}
use Rattle.frame_facts.specs.Facts.{Fact}
use Rattle.world.specs.Ground.{Ground, IsGround}
use Rattle.world.specs.Views.{View, Has, At}
use Rattle.world.specs.Wants.{answer_to, word_of}
use Rattle.world.specs.Kinds.{cuts_power, with_reply, next_entry}
use Rattle.world.specs.Attempts.{HoldsOnly, HasNoMore, EntersReply}
use Rattle.world.specs.areas.Areas.{Area, Allocation, header_word}
use Rattle.world.specs.Invariant.{Holds}
use Rattle.world.specs.areas.Kinds.{of_free_slots, with_guard, with_slot}
use Rattle.world.specs.areas.Rows.{Row, marks, news}
use Rattle.world.specs.StepKinds.{StepKind, of_call, wanted_of, view_by, MayTake}
use Rattle.world.specs.StepLaws.{IsPublishingStep}
use Rattle.part.specs.Outcomes.{Outcome, reply_of}
use Rattle.part.specs.Part.{LeavesKnown, IsPart}
use Rattle.part.specs.Asks.{IsWithin, PutsWord}
use Rattle.enclose_op.proofs.Handing.{one_more, none_more, same_more}
use Rattle.rounds.specs.declared.rounds.Rounds.{Rounds}
use Rattle.rounds.specs.Steps.{rounds_wanted, event_wanted}
use Rattle.rounds.specs.Steps as round
use Rattle.rounds.proofs.Events.{event_cases}
use Rattle.rounds.proofs.Wanted.{event_of, by_wanted, event_none}
use Rattle.rounds.proofs.Silent.{round_makes, round_power}
use Rattle.rounds.proofs.Settling.{settled_firm}
use Rattle.enclose_op.specs.declared.enclosed.Enclosed.{Enclosed}
use Rattle.enclose_op.specs.declared.give.Give.{Give}
use Rattle.enclose_op.specs.Giving.{given}
use Rattle.enclose_op.specs.Whole.{IsOf}
use Rattle.enclose_op.specs.Fits.{give_kind}
use Rattle.enclose_op.proofs.Backing.{give_wants, give_may, give_next}
use Rattle.enclose_op.proofs.causes.Causing.{knows_full}
use Rattle.split_op.specs.declared.batch.Batch.{Batch}
use Rattle.split_op.specs.declared.batch.Batch.TheVariants.{Empty, Link, Mark, New, Copy}
use Rattle.split_op.specs.declared.step.SplitEnd.{SplitEnd}
use Rattle.split_op.specs.declared.step.SplitEnd.TheVariants as ends
use Rattle.split_op.specs.declared.step.SplitStep.{SplitStep}
use Rattle.split_op.specs.declared.step.SplitStep.TheVariants.{Take, Search, Count, Return, Look, Put, Release, Back, Ended}
use Rattle.split_op.specs.declared.op.SplitOp.{SplitOp}
use Rattle.split_op.specs.Copied.{split_head, side_head, KeepsCopied}
use Rattle.way.specs.Ways.{slot_word}
use Rattle.split_op.specs.Batches.{empty_value, due}
use Rattle.split_op.specs.Steps.{go, last_slot, searched, finished, put_by, stored, given_to, wanted_in, next_in, wanted}
use Rattle.split_op.specs.Fits.{head_kind, put_kind, look_word, look_kind, kind_at, outcome_of, outcome_at, is_copied_end, hands_on_at, IsPutting, SuitsStep}
use Rattle.split_op.specs.SplitPart.{SplitStands, split_part, BeginsAsPart, BeginsUndecided, HandsOnCopied}
use Rattle.split_op.proofs.Falling.{falls, most, waiting_most, flushes, keeps, ends_none}
use Rattle.split_op.proofs.Places.{slot_is}
use Rattle.split_op.proofs.Rounding.{Fits, event_fits, due_in_image}
use Rattle.split_op.proofs.Stepping.{take_suits, search_suits, searching_none, crowd, count_suits, return_suits, look_may, look_suits, release_suits, given_suits}

-- ---- what is decided
-- nothing, while a free slot is looked for and words are stored
abbrev IsOpen : SplitStep → Type 0
IsOpen s = outcome_at s ≡ None

pub open_search : (op : SplitOp) (slot n : ℕ) → IsOpen (searched op slot n).step
open_search op slot n = cond_both (state_in n == free) _ _ (λ (o : SplitOp). IsOpen o.step) (λ _. refl)
    (λ _. cond_both (nat_lt slot (last_slot op.copied.whole.site.geometry)) _ _ (λ (o : SplitOp). IsOpen o.step) (λ _. refl) (λ _. refl))

pub open_look : (b : ℕ) → IsOpen (if nat_lt b (buckets - 1) then Look (b + 1) else Put (Empty 2) round.begun)
open_look b = cond_both (nat_lt b (buckets - 1)) (Look (b + 1)) (Put (Empty 2) round.begun) IsOpen (λ _. refl) (λ _. refl)

open_finished : (batch : Batch) → IsOpen (finished batch)
open_finished (Empty k) = refl
open_finished (Link stored) = refl
open_finished (Mark stored) = refl
open_finished (New stored) = refl
open_finished (Copy k) = refl

pub open_put : (want : Option Want) (batch : Batch) (rounds : Rounds) → IsOpen (put_by want batch rounds)
open_put (Some w) batch rounds = refl
open_put None batch rounds = open_finished batch

pub same_outcome : (more : Option Give) (end : SplitEnd) → outcome_at (given_to more end) ≡ outcome_of end
same_outcome (Some more) end = refl
same_outcome None end = refl

-- ---- which replies are entered
-- none in a step before the reply is placed
abbrev IsSilent : SplitStep → Type 0
IsSilent s = reply_of (outcome_at s) ≡ None

silent_take : (op : SplitOp) (t : Bool) (n : ℕ) → IsSilent (next_in op Take (if t then Won else Lost n)).step
silent_take op true n = refl
silent_take op false n = refl

guard_own : (t : Bool) (v : View) → (with_guard t of_free_slots v).own ≡ v.own
guard_own true v = refl
guard_own false v = refl

guard_seen : (t : Bool) (v : View) → (with_guard t of_free_slots v).seen ≡ v.seen
guard_seen true v = refl
guard_seen false v = refl

slot_own : (t : Bool) (m i x : ℕ) (v : View) → (with_slot t m i x v).own ≡ v.own
slot_own true m i x v = refl
slot_own false m i x v = refl

slot_seen : (t : Bool) (m i x : ℕ) (v : View) → (with_slot t m i x v).seen ≡ v.seen
slot_seen true m i x v = refl
slot_seen false m i x v = refl

look_own : (shape : Shape) (op : SplitOp) (b n : ℕ) (v : View) → (view_by shape (look_kind op b) n v).own ≡ v.own
look_own shape op zero n v = refl
look_own shape op (suc b) n v = refl

look_seen : (shape : Shape) (op : SplitOp) (b n : ℕ) (v : View) → (view_by shape (look_kind op b) n v).seen ≡ v.seen
look_seen shape op zero n v = refl
look_seen shape op (suc b) n v = refl

look_wants : (shape : Shape) (op : SplitOp) (b : ℕ) → want.Load (look_word op b) ≡ wanted_of shape (look_kind op b)
look_wants shape op zero = refl
look_wants shape op (suc b) = refl

-- ---- the next state is of the same segment
same_search : (op : SplitOp) (slot n : ℕ) → (searched op slot n).copied.whole ≡ op.copied.whole
same_search op slot n = cond_both (state_in n == free) _ _ (λ (o : SplitOp). o.copied.whole ≡ op.copied.whole) (λ _. refl)
    (λ _. cond_both (nat_lt slot (last_slot op.copied.whole.site.geometry)) _ _ (λ (o : SplitOp). o.copied.whole ≡ op.copied.whole) (λ _. refl) (λ _. refl))

-- ---- whatever the image
module _ (site : Ground) (here : Site) (call : Call) (op : SplitOp) (is : IsOf site here call op.copied.whole) (v : View) where
  abbrev e : Enclosed
  e = op.copied.whole

  abbrev Suited : SplitStep → Type 0
  Suited step = SuitsStep site here call op.copied op.locks step v

  -- ---- an event of the rounds
  module _ (batch : Batch) (rounds : Rounds) (s : IsPutting site here call op.copied op.locks batch rounds v) where
    abbrev next : Option (ℕ × ℕ)
    next = due op.copied op.locks batch

    some_event : (o : Option Want) → rounds_wanted rounds next ≡ o → (w : Want) × (rounds_wanted rounds next ≡ Some w)
    some_event (Some w) same = (w, same)
    some_event None same = absurd (s.asks same)

    abbrev event : (w : Want) × (rounds_wanted rounds next ≡ Some w)
    event = some_event (rounds_wanted rounds next) refl

    is_event : event_wanted rounds next ≡ event.0
    is_event = event_of rounds next event.0 s.stands.few event.1

    pub put_asks : event_wanted rounds next ≢ want.Done
    put_asks done = s.asks (event_none rounds next s.stands.few done)

  -- ---- what it puts into the memory
  zero_puts : (i : ℕ) → PutsWord (want.Store i 0)
  zero_puts i = record { stores = λ j x same. (let at : 0 ≡ x = cc in omega (arith, at)); exchanges = λ i a b e. absurd (cc) }

  second_is : (q r : ℕ × ℕ) → Some q ≡ Some r → q.1 ≡ r.1
  second_is q r f = ap (λ (z : ℕ × ℕ). z.1) (same_Some _ _ f)

  free_fits : (x : ℕ) → x < 2 ^ 64 → without_lock x < 2 ^ 64
  free_fits x small = omega (arith, small)

  value_fits : (batch : Batch) (rounds : Rounds) → IsPutting site here call op.copied op.locks batch rounds v → (word value : ℕ) → due op.copied op.locks batch ≡ Some (word, value) → value < 2 ^ 64
  value_fits (Empty k) rounds s word value f =
      let o = cond_some (nat_lt k segment_words) (slot_word e.site.geometry op.copied.side k, empty_value op.locks k) (word, value) f in
      subst (λ (z : ℕ). z < 2 ^ 64) (ap (λ (z : ℕ × ℕ). z.1) o.1)
      (cond_both (nat_lt k 32 || nat_lt 0 (k % 32)) 0 (without_lock (slice_index op.locks (k / 32 - 1))) (λ (z : ℕ). z < 2 ^ 64) (λ _. omega arith) (λ _. free_fits (slice_index op.locks (k / 32 - 1)) (s.splits.slot.row.small (k / 32 - 1))))
  value_fits (Link false) rounds s word value f =
      subst (λ (z : ℕ). z < 2 ^ 64) (second_is (slot_word e.site.geometry e.segment 2, suc op.copied.side % 2 ^ 64) (word, value) f) (omega arith)
  value_fits (Link true) rounds s word value f = absurd (none-some _ f)
  value_fits (Mark false) rounds s word value f =
      subst (λ (z : ℕ). z < 2 ^ 64) (second_is (slot_word e.site.geometry e.segment 1, split_head e) (word, value) f)
      (let fits = s.splits.keeps.whole.head.head_fits in header_below (version_in e.head) splitting (depth_in e.head) (pattern_in e.head) (omega arith) (omega arith) (omega arith) (omega (arith, fits)))
  value_fits (Mark true) rounds s word value f = absurd (none-some _ f)
  value_fits (New false) rounds s word value f =
      subst (λ (z : ℕ). z < 2 ^ 64) (second_is (slot_word e.site.geometry op.copied.side 1, side_head e) (word, value) f)
      (let version = is.version in header_below e.site.version fresh ((depth_in e.head + 1) % 2 ^ 8) ((2 * pattern_in e.head + 1) % 2 ^ 32) (omega (arith, version)) (omega arith) (omega arith) (omega arith))
  value_fits (New true) rounds s word value f = absurd (none-some _ f)
  value_fits (Copy k) rounds s word value f =
      let o = cond_some (nat_lt k segment_words) (slot_word e.site.geometry op.copied.side k, slice_index op.copied.words (k - 32)) (word, value) f in
      subst (λ (z : ℕ). z < 2 ^ 64) (ap (λ (z : ℕ × ℕ). z.1) o.1) (s.splits.keeps.words.small (k - 32))

  event_puts : (batch : Batch) (rounds : Rounds) → IsPutting site here call op.copied op.locks batch rounds v → PutsWord (event_wanted rounds (due op.copied op.locks batch))
  event_puts batch rounds s = by_wanted rounds (due op.copied op.locks batch) PutsWord (record { stores = λ i x e. absurd (cc); exchanges = λ i a b e. absurd (cc) })
      (λ p is_due. record {
        stores = λ i x same. (let at : p.1 ≡ x = cc in let fits = value_fits batch rounds s p.0 p.1 is_due in omega (arith, at, fits));
        exchanges = λ i a b e. absurd (cc);
      })
      (λ line has. record { stores = λ i x e. absurd (cc); exchanges = λ i a b e. absurd (cc) })
      (record { stores = λ i x e. absurd (cc); exchanges = λ i a b e. absurd (cc) })

  puts_at : (step : SplitStep) → Suited step → PutsWord (wanted_in op step)
  puts_at Take s = record { stores = λ i x e. absurd (cc); exchanges = λ i a b same. (let at : e.site.caller ≡ b = cc in let low = is.caller in omega (arith, at, low)) }
  puts_at (Search slot) s = record { stores = λ i x e. absurd (cc); exchanges = λ i a b e. absurd (cc) }
  puts_at Count s = record { stores = λ i x e. absurd (cc); exchanges = λ i a b e. absurd (cc) }
  puts_at (Return count) s = zero_puts (allocation_guard e.site.geometry)
  puts_at (Look b) s = record { stores = λ i x e. absurd (cc); exchanges = λ i a b e. absurd (cc) }
  puts_at (Put batch rounds) s = event_puts batch rounds s
  puts_at Release s = zero_puts (allocation_guard e.site.geometry)
  puts_at (Back give end) s = give_puts e give
  puts_at (Ended end) s = record { stores = λ i x e. absurd (cc); exchanges = λ i a b e. absurd (cc) }

  -- ---- nothing is planned, and nothing is held at the end but what is handed on
  end_plan : (end : SplitEnd) → Suited (Ended end) → v.planned ≡ []
  end_plan ends.Copied s = s.quiet.planned
  end_plan (ends.Again why) s = s.planned
  end_plan (ends.Full count) s = s.planned

  no_plan : (step : SplitStep) → Suited step → v.planned ≡ []
  no_plan Take s = s.0.quiet.planned
  no_plan (Search slot) s = s.0.keeps.planned
  no_plan Count s = s.0.keeps.planned
  no_plan (Return count) s = s.keeps.planned
  no_plan (Look b) s = s.keeps.planned
  no_plan (Put batch rounds) s = s.splits.keeps.planned
  no_plan Release s = s.0.keeps.planned
  no_plan (Back give end) s = give_plan site e give v s.0
  no_plan (Ended end) s = end_plan end s

  end_bare : (end : SplitEnd) → Suited (Ended end) → is_copied_end end ≡ false → HoldsOnly [] v
  end_bare ends.Copied s closed = absurd (let z : true ≡ false = closed in cc)
  end_bare (ends.Again why) s closed = s
  end_bare (ends.Full count) s closed = s

  bare_at : (step : SplitStep) → Suited step → wanted_in op step ≡ want.Done → hands_on_at step ≡ false → HoldsOnly [] v
  bare_at Take s done closed = absurd (let z : want.Exchange (allocation_guard e.site.geometry) 0 e.site.caller ≡ want.Done = done in cc)
  bare_at (Search slot) s done closed = absurd (let z : want.Load (slot_word e.site.geometry slot 1) ≡ want.Done = done in cc)
  bare_at Count s done closed = absurd (let z : want.Load (counter_word e.site.geometry) ≡ want.Done = done in cc)
  bare_at (Return count) s done closed = absurd (let z : want.Store (allocation_guard e.site.geometry) 0 ≡ want.Done = done in cc)
  bare_at (Look b) s done closed = absurd (let z : want.Load (look_word op b) ≡ want.Done = done in cc)
  bare_at (Put batch rounds) s done closed = absurd (put_asks batch rounds s done)
  bare_at Release s done closed = absurd (let z : want.Store (allocation_guard e.site.geometry) 0 ≡ want.Done = done in cc)
  bare_at (Back give end) s done closed = absurd (give_some e give done)
  bare_at (Ended end) s done closed = end_bare end s closed

  copied_end : (end : SplitEnd) → Suited (Ended end) → is_copied_end end ≡ true → KeepsCopied site here call op.copied v
  copied_end ends.Copied s hands = s
  copied_end (ends.Again why) s hands = absurd (let z : false ≡ true = hands in cc)
  copied_end (ends.Full count) s hands = absurd (let z : false ≡ true = hands in cc)

  copied_at : (step : SplitStep) → Suited step → hands_on_at step ≡ true → KeepsCopied site here call op.copied v
  copied_at (Ended end) s hands = copied_end end s hands
  copied_at Take s hands = absurd (cc)
  copied_at (Search slot) s hands = absurd (cc)
  copied_at Count s hands = absurd (cc)
  copied_at (Return count) s hands = absurd (cc)
  copied_at (Look b) s hands = absurd (cc)
  copied_at (Put batch rounds) s hands = absurd (cc)
  copied_at Release s hands = absurd (cc)
  copied_at (Back give end) s hands = absurd (cc)

-- ---- one step
module _ (site : Ground) (ground : IsGround site) (here : Site) (call : Call) (op : SplitOp) (is : IsOf site here call op.copied.whole) (before v : View) where
  abbrev whole : Enclosed
  whole = op.copied.whole

  abbrev Suits : SplitStep → Type 0
  Suits step = SuitsStep site here call op.copied op.locks step v

  abbrev g : whole.site.geometry ≡ site.shape
  g = is.located.shape

  -- ---- an event of the rounds
  module _ (batch : Batch) (rounds : Rounds) (s : IsPutting site here call op.copied op.locks batch rounds v) where
    abbrev coming : Option (ℕ × ℕ)
    coming = due op.copied op.locks batch

    abbrev at : (w : Want) × (rounds_wanted rounds coming ≡ Some w)
    at = event site here call op is v batch rounds s

    fit : Fits site ground here call op v batch rounds s.splits s.stands s.lines at.0 (put_kind op batch (Some at.0))
    fit = event_fits site ground here call op v rounds s.stands s.lines batch s.splits at.0 at.1 (event_cases rounds coming at.0 at.1)

    kind_is : put_kind op batch (rounds_wanted rounds coming) ≡ put_kind op batch (Some at.0)
    kind_is = ap (put_kind op batch) at.1

    put_wants : event_wanted rounds coming ≡ wanted_of site.shape (put_kind op batch (rounds_wanted rounds coming))
    put_wants = is_event site here call op is v batch rounds s ∙ fit.wants ∙ ap (wanted_of site.shape) (sym kind_is)

    put_may : MayTake site (put_kind op batch (rounds_wanted rounds coming)) v
    put_may = subst (λ (k : StepKind). MayTake site k v) (sym kind_is) fit.may

    pub passes : (n : ℕ) → answer_to (event_wanted rounds coming) n ≡ Passed
    passes n = ap (λ (w : Want). answer_to w n) (is_event site here call op is v batch rounds s) ∙ fit.answer n

    put_stands : (n : ℕ) → SplitStands site here call (next_in op (Put batch rounds) (answer_to (event_wanted rounds coming) n)) (view_by site.shape (put_kind op batch (rounds_wanted rounds coming)) n v)
    put_stands n =
        subst (λ (a : Ans). SplitStands site here call (next_in op (Put batch rounds) a) (view_by site.shape (put_kind op batch (rounds_wanted rounds coming)) n v)) (sym (passes n))
        (subst (λ (k : StepKind). SplitStands site here call (go op (stored op batch rounds)) (view_by site.shape k n v)) (sym kind_is) (record { is = is; view = fit.suits n }))

    put_silent : (n : ℕ) → IsSilent (next_in op (Put batch rounds) (answer_to (event_wanted rounds coming) n)).step
    put_silent n = subst (λ (a : Ans). IsSilent (next_in op (Put batch rounds) a).step) (sym (passes n)) (ap reply_of (open_put _ _ _))

    put_own : (n : ℕ) → (view_by site.shape (put_kind op batch (rounds_wanted rounds coming)) n v).own ≡ v.own
    put_own n = ap (λ (k : StepKind). (view_by site.shape k n v).own) kind_is ∙ fit.own n

    put_seen : (n : ℕ) → (view_by site.shape (put_kind op batch (rounds_wanted rounds coming)) n v).seen ≡ v.seen
    put_seen n = ap (λ (k : StepKind). (view_by site.shape k n v).seen) kind_is ∙ fit.seen n

  -- ---- what it wants
  guard_at : want.Store (allocation_guard whole.site.geometry) 0 ≡ want.Store (allocation_guard site.shape) 0
  guard_at = ap (λ (z : Shape). want.Store (allocation_guard z) 0) g

  wants : (step : SplitStep) → Suits step → wanted_in op step ≢ want.Done → wanted_in op step ≡ wanted_of site.shape (kind_at op step)
  wants Take s asks = ap (λ (z : Shape). want.Exchange (allocation_guard z) 0 whole.site.caller) g
  wants (Search slot) s asks = ap want.Load (slot_is whole.site.geometry site.shape g slot 1 s.1)
  wants Count s asks = ap (λ (z : Shape). want.Load (counter_word z)) g
  wants (Return count) s asks = guard_at
  wants (Look b) s asks = look_wants site.shape op b
  wants (Put batch rounds) s asks = put_wants batch rounds s
  wants Release s asks = guard_at
  wants (Back give end) s asks = give_wants site whole is.located v give s.0
  wants (Ended end) s asks = absurd (asks refl)

  -- ---- which the view may take
  may : (step : SplitStep) → Suits step → MayTake site (kind_at op step) v
  may Take s = is.numbered
  may (Search slot) s = (subst (λ (l : List Area). Has Allocation l) (sym s.0.areas) (inl refl), s.1, (λ p l inside. settled_firm v s.0.settled p l))
  may Count s = ((refl, inl (λ a. is.insert), knows_full site whole v (crowd site ground here call op v s.0), (λ spent. absurd (cc)), (λ full. s.1)), searching_none site ground here call op v s.0)
  may (Return count) s = (subst (λ (l : List Area). Has Allocation l) (sym s.areas) (inl refl), (λ p l inside. settled_firm v s.settled p l), (λ n side p l is. settled_firm v s.settled p l))
  may (Look b) s = look_may site ground here call op v b s
  may (Put batch rounds) s = put_may batch rounds s
  may Release s = (subst (λ (l : List Area). Has Allocation l) (sym s.0.areas) (inr (inr (inl refl))), (λ p l inside. settled_firm v s.1 p l), (λ n side p l is. settled_firm v s.1 p l))
  may (Back give end) s = give_may site whole is.located v give s.0
  may (Ended end) s = (tt, tt)

  -- ---- what it leaves
  stands : (step : SplitStep) (n : ℕ) → n < 2 ^ 64 → Suits step → wanted_in op step ≢ want.Done → ((slot : ℕ) → step ≡ Search slot → slot ≡ whole.segment → n ≡ whole.head)
      → SplitStands site here call (next_in op step (answer_to (wanted_in op step) n)) (view_by site.shape (kind_at op step) n v)
  stands Take n small s asks same = by (n == 0)
    where
      by : (t : Bool) → SplitStands site here call (next_in op Take (if t then Won else Lost n)) (with_guard t of_free_slots v)
      by true = record { is = is; view = take_suits site ground here call op v s true n }
      by false = record { is = is; view = take_suits site ground here call op v s false n }
  stands (Search slot) n small s asks same = record {
    is = subst (λ (z : Enclosed). IsOf site here call z) (sym (same_search op slot n)) is;
    view = search_suits site ground here call op v slot n s (λ at. same slot refl at);
  }
  stands Count n small s asks same = record { is = is; view = count_suits site ground here call op v n s }
  stands (Return count) n small s asks same = record { is = is; view = return_suits site ground here call op v count n s }
  stands (Look b) n small s asks same = record { is = is; view = look_suits site ground here call op v b n small s }
  stands (Put batch rounds) n small s asks same = put_stands batch rounds s n
  stands Release n small s asks same = record { is = is; view = release_suits site ground here call op v n s }
  stands (Back give end) n small s asks same =
      let u : View = view_by site.shape (give_kind whole give) n v in
      subst (λ (a : Ans). SplitStands site here call (next_in op (Back give end) a) u) (sym (give_answer whole give n))
      (record { is = is; view = given_suits site ground here call op v (given give) end u s.1 (give_next site whole is.located v give n s.0) })
  stands (Ended end) n small s asks same = absurd (asks refl)

  -- ---- and which replies are entered
  abbrev Enters : SplitStep → View → Type 0
  Enters step u = EntersReply call (reply_of (outcome_at step)) before u

  abbrev next_view : SplitStep → ℕ → View
  next_view step n = view_by site.shape (kind_at op step) n v

  abbrev next_step : SplitStep → ℕ → SplitStep
  next_step step n = (next_in op step (answer_to (wanted_in op step) n)).step

  silent : (step : SplitStep) (n : ℕ) → IsSilent (next_step step n) → HasNoMore before v → (next_view step n).own ≡ v.own → (next_view step n).seen ≡ v.seen → Enters (next_step step n) (next_view step n)
  silent step n none same own seen = none_more call before v (reply_of (outcome_at (next_step step n))) (next_view step n) none same own seen

  enters : (step : SplitStep) (n : ℕ) → Suits step → Enters step v → wanted_in op step ≢ want.Done → Enters (next_step step n) (next_view step n)
  enters Take n s same asks = silent Take n (silent_take op (n == 0) n) same (guard_own (n == 0) v) (guard_seen (n == 0) v)
  enters (Search slot) n s same asks =
      silent (Search slot) n (ap reply_of (open_search op slot n)) same (slot_own (state_in n == free) slot (header_word site.shape slot) n v) (slot_seen (state_in n == free) slot (header_word site.shape slot) n v)
  enters Count n s same asks =
      subst (λ (z : Call). EntersReply call (Some (Full, n)) before (with_reply v (next_entry v z Full n false))) (sym is.same) (one_more call before v Full n refl same)
  enters (Return count) n s same asks = same_more call before v (Some (Full, count)) (next_view (Return count) n) same refl refl
  enters (Look b) n s same asks = silent (Look b) n (ap reply_of (open_look b)) same (look_own site.shape op b n v) (look_seen site.shape op b n v)
  enters (Put batch rounds) n s same asks = silent (Put batch rounds) n (put_silent batch rounds s n) same (put_own batch rounds s n) (put_seen batch rounds s n)
  enters Release n s same asks = silent Release n (ap reply_of (open_put _ _ _)) same refl refl
  enters (Back give end) n s same asks =
      let u : View = next_view (Back give end) n in
      subst (λ (a : Ans). Enters (next_in op (Back give end) a).step u) (sym (give_answer whole give n))
      (subst (λ (o : Option Outcome). EntersReply call (reply_of o) before u) (sym (same_outcome (given give) end))
      (same_more call before v (reply_of (outcome_of end)) u same (give_own site.shape whole give n v) (give_seen site.shape whole give n v)))
  enters (Ended end) n s same asks = absurd (asks refl)

  -- ---- what it asks for
  none_in : IsWithin site.shape want.Done
  none_in = record { word = (let some = ground.shape.some in omega (arith, some)); line = λ n e. absurd (cc) }

  slot_low : (n p : ℕ) → n < site.shape.segments → p < segment_words → slot_word whole.site.geometry n p < all_words_of site.shape
  slot_low n p low small = subst (λ (i : ℕ). i < all_words_of site.shape) (sym (slot_is whole.site.geometry site.shape g n p low)) (by (first_segment site.shape) n p site.shape.segments low small)
    where
      by : (f n p k : ℕ) → n < k → p < 2144 → f + 2144 * n + p < f + 2144 * k + 4 + k
      by f n p k low small = omega (arith, low, small)

  guard_low : allocation_guard whole.site.geometry < all_words_of site.shape
  guard_low = subst (λ (z : Shape). allocation_guard z < all_words_of site.shape) (sym g) (omega arith)

  event_in : (batch : Batch) (rounds : Rounds) (s : IsPutting site here call op.copied op.locks batch rounds v) → IsWithin site.shape (event_wanted rounds (due op.copied op.locks batch))
  event_in batch rounds s = by_wanted rounds (due op.copied op.locks batch) (IsWithin site.shape) none_in
      (λ p is_due. record {
        word = (let line = due_in_image site ground here call op v batch rounds s.splits s.stands s.lines batch p.0 p.1 is_due in omega (arith, line));
        line = λ l e. absurd (cc);
      })
      (λ line has. let low = s.lines line has in record {
        word = omega (arith, low);
        line = λ l e. (let same : line ≡ l = cc in omega (arith, low, same));
      })
      (record { word = omega arith; line = λ l e. absurd (cc) })

  within_at : (step : SplitStep) → Suits step → IsWithin site.shape (wanted_in op step)
  within_at Take s = record { word = guard_low; line = λ n e. absurd (cc) }
  within_at (Search slot) s = record { word = slot_low slot 1 s.1 (omega arith); line = λ n e. absurd (cc) }
  within_at Count s = subst (λ (z : Shape). IsWithin site.shape (want.Load (counter_word z))) (sym g) (record { word = omega arith; line = λ n e. absurd (cc) })
  within_at (Return count) s = record { word = guard_low; line = λ n e. absurd (cc) }
  within_at (Look b) s = record { word = slot_low op.copied.side (32 + 32 * (b % buckets)) s.slot.slot (omega arith); line = λ n e. absurd (cc) }
  within_at (Put batch rounds) s = event_in batch rounds s
  within_at Release s = record { word = guard_low; line = λ n e. absurd (cc) }
  within_at (Back give end) s = give_in site whole is.located give v s.0
  within_at (Ended end) s = none_in

-- ---- no step makes a change, or cuts the power
head_makes : (row : Row) (s x : ℕ) (o : Option Want) → IsPublishingStep (head_kind row s x o) → ⊥
head_makes row s x None p = p
head_makes row s x (Some (want.Store i y)) p = p
head_makes row s x (Some (want.Flush l)) p = p
head_makes row s x (Some want.Fence) p = p
head_makes row s x (Some w) p = p

put_makes : (op : SplitOp) (batch : Batch) (o : Option Want) → IsPublishingStep (put_kind op batch o) → ⊥
put_makes op (Empty k) o p = round_makes [] o p
put_makes op (Link stored) o p = round_makes [] o p
put_makes op (Mark stored) o p = head_makes (marks op.copied.side) op.copied.whole.segment (split_head op.copied.whole) o p
put_makes op (New stored) o p = head_makes (news op.copied.whole.segment) op.copied.side (side_head op.copied.whole) o p
put_makes op (Copy k) o p = round_makes [] o p

look_makes : (op : SplitOp) (b : ℕ) → IsPublishingStep (look_kind op b) → ⊥
look_makes op zero p = p
look_makes op (suc b) p = p

makes_none : (op : SplitOp) (step : SplitStep) → IsPublishingStep (kind_at op step) → ⊥
makes_none op Take p = p
makes_none op (Search slot) p = p
makes_none op Count p = p
makes_none op (Return count) p = p
makes_none op (Look b) p = look_makes op b p
makes_none op (Put batch rounds) p = put_makes op batch (rounds_wanted rounds (due op.copied op.locks batch)) p
makes_none op Release p = p
makes_none op (Back give end) p = give_makes op.copied.whole give p
makes_none op (Ended end) p = p

head_power : (row : Row) (s x : ℕ) (o : Option Want) → head_kind row s x o ≢ of_call cuts_power
head_power row s x None same = absurd (cc)
head_power row s x (Some (want.Store i y)) same = absurd (cc)
head_power row s x (Some (want.Flush l)) same = absurd (cc)
head_power row s x (Some want.Fence) same = absurd (cc)
head_power row s x (Some w) same = absurd (cc)

put_power : (op : SplitOp) (batch : Batch) (o : Option Want) → put_kind op batch o ≢ of_call cuts_power
put_power op (Empty k) o same = round_power [] o same
put_power op (Link stored) o same = round_power [] o same
put_power op (Mark stored) o same = head_power (marks op.copied.side) op.copied.whole.segment (split_head op.copied.whole) o same
put_power op (New stored) o same = head_power (news op.copied.whole.segment) op.copied.side (side_head op.copied.whole) o same
put_power op (Copy k) o same = round_power [] o same

look_power : (op : SplitOp) (b : ℕ) → look_kind op b ≢ of_call cuts_power
look_power op zero same = absurd (cc)
look_power op (suc b) same = absurd (cc)

power_at : (op : SplitOp) (step : SplitStep) → kind_at op step ≢ of_call cuts_power
power_at op Take same = absurd (cc)
power_at op (Search slot) same = absurd (cc)
power_at op Count same = absurd (cc)
power_at op (Return count) same = absurd (cc)
power_at op (Look b) same = look_power op b same
power_at op (Put batch rounds) same = put_power op batch (rounds_wanted rounds (due op.copied op.locks batch)) same
power_at op Release same = absurd (cc)
power_at op (Back give end) same = give_power op.copied.whole give same
power_at op (Ended end) same = absurd (cc)

hands_at : (op : SplitOp) (step : SplitStep) → hands_on_at step ≡ true → wanted_in op step ≡ want.Done
hands_at op (Ended end) hands = refl
hands_at op Take hands = absurd (cc)
hands_at op (Search slot) hands = absurd (cc)
hands_at op Count hands = absurd (cc)
hands_at op (Return count) hands = absurd (cc)
hands_at op (Look b) hands = absurd (cc)
hands_at op (Put batch rounds) hands = absurd (cc)
hands_at op Release hands = absurd (cc)
hands_at op (Back give end) hands = absurd (cc)

-- the header that is loaded of a slot is the one that is known, where it is the segment's own
own_head : (site : Ground) (here : Site) (call : Call) (words : Words) (views : List View) (j : ℕ) (op : SplitOp) (v : View) → Holds site words views → At views j v → IsOf site here call op.copied.whole
    → (step : SplitStep) → SuitsStep site here call op.copied op.locks step v → (slot : ℕ) → step ≡ Search slot → slot ≡ op.copied.whole.segment → words (word_of site.shape (wanted_in op step)) ≡ op.copied.whole.head
own_head site here call words views j op v h at is step s slot same own = by (subst (λ (z : SplitStep). SuitsStep site here call op.copied op.locks z v) same s)
  where
    g : op.copied.whole.site.geometry ≡ site.shape
    g = is.located.shape

    by : SuitsStep site here call op.copied op.locks (Search slot) v → words (word_of site.shape (wanted_in op step)) ≡ op.copied.whole.head
    by st =
        ap (λ (z : SplitStep). words (word_of site.shape (wanted_in op z))) same
        ∙ ap words (slot_is op.copied.whole.site.geometry site.shape g slot 1 st.1)
        ∙ ap (λ (z : ℕ). words (header_word site.shape z)) own
        ∙ (h.known.knows j v (header_word site.shape op.copied.whole.segment) op.copied.whole.head at st.0.header).0

-- A SPLIT IS A PART of a call
-- it never ends since a segment is stale
known_end : (site : Ground) (end : SplitEnd) (facts : List Fact) → LeavesKnown site (outcome_of end) facts
known_end site ends.Copied facts = tt
known_end site (ends.Again why) facts = tt
known_end site (ends.Full count) facts = tt

known_at : (site : Ground) (s : SplitStep) (facts : List Fact) → LeavesKnown site (outcome_at s) facts
known_at site (Back give end) facts = known_end site end facts
known_at site (Ended end) facts = known_end site end facts
known_at site s facts = tt

pub split_is_part : IsPart split_part
split_is_part = record {
  steps = λ site here call words views j op before v h at s asks.
      let n : ℕ = words (word_of site.shape (wanted op)) in
      let is = s.stands.is in
      let view = s.stands.view in
      record {
        wants = wants site h.site_is here call op is before v op.step view asks;
        may = may site h.site_is here call op is before v op.step view;
        stands = λ small. stands site h.site_is here call op is before v op.step n small view asks (own_head site here call words views j op v h at is op.step view);
        enters = λ small. enters site h.site_is here call op is before v op.step n view s.enters asks;
        makes = λ p. absurd (makes_none op op.step p);
      };
  ends = λ site here call op v s done closed on. bare_at site here call op s.is v op.step s.view done closed;
  time = record { falls = λ op a i. inl (falls op op.step a i); most = most };
  within = λ site here call op before v good s. within_at site good here call op s.stands.is before v op.step s.stands.view;
  words = λ site here call op before v s. puts_at site here call op s.stands.is v op.step s.stands.view;
  flushes = record {
    most = λ op. waiting_most op.step;
    flushes = λ op a l i f. flushes op op.step a l i f;
    keeps = λ op a i f. keeps op op.step a i f;
    ends = λ op e. ends_none op op.step e;
  };
  made = record { stays = λ op a i made. absurd made; done = λ op made done. absurd made };
  plans = λ site here call op before v planned s has. absurd (subst (λ (l : List Call). Has planned l) (no_plan site here call op s.stands.is v op.step s.stands.view) has);
  relies = λ site here call op v s. known_at site op.step v.facts;
  hands = λ op hands. hands_at op op.step hands;
  power = λ op n. power_at op op.step;
}

-- ---- where it begins
pub begins_as_part : BeginsAsPart
begins_as_part site here call e words v keeps from = record {
  is = keeps.is;
  view = (
    keeps,
    from,
    record {
      each_lock = length-replicate {A = ℕ} 66 0;
      small = zeros_small 66;
    },
  );
}

pub begins_undecided : BeginsUndecided
begins_undecided e words = refl

-- and what it hands on
pub hands_on_copied : HandsOnCopied
hands_on_copied site here call op v s hands = copied_at site here call op s.is v op.step s.view hands
