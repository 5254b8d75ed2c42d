-- The beginning of a repair is a part.
use Rattle.std.proofs.Common.{◌≡◌, ◌≢◌, ℕ, zero, suc, ◌+◌, ◌*◌, ◌^◌, ◌<◌, ◌≤◌, Bool, true, false, None, List, [], inl, refl, sym, ap, ◌∙◌, subst, arith}
use Rattle.std.specs.Prelude.{◌==◌, if◌then◌else◌}
use Rattle.trace.specs.Events.{Words, line_of}
use Rattle.op_core.specs.declared.want.Want.{Want}
use Rattle.op_core.specs.declared.want.Want.TheVariants as want
use Rattle.op_core.specs.declared.want.Ans.{Ans}
use Rattle.op_core.specs.declared.want.Ans.TheVariants.{Value, Won, Lost, Passed}
use Rattle.op_core.specs.Answers.{IsAnswer}
use Rattle.segment_head.specs.HeadWord.{version_in, state_in, depth_in, pattern_in, free, normal, splitting}
use Rattle.image_layout.specs.Places.{words_of}
use Rattle.image_layout.specs.Volatile.{allocation_guard, all_words_of, counter_word}
use Rattle.frame_facts.specs.Facts.{Fact, Lives}
use Rattle.way.specs.Ways.{head_word}
use Rattle.map_model.specs.declared.call.Call.{Call}
use Rattle.world.specs.declared.site.Site.{Site}
use Rattle.world.specs.Ground.{Ground, IsGround}
use Rattle.world.specs.Views.{View, Has}
use Rattle.world.specs.Wants.{answer_to, word_of}
use Rattle.world.specs.Kinds.{cuts_power}
use Rattle.world.specs.Attempts.{HoldsOnly, EntersReply}
use Rattle.world.specs.areas.Areas.{header_word}
use Rattle.world.specs.areas.Rows.{Row, frees, unmarks}
use Rattle.world.specs.areas.Kinds.{of_segment, of_free_slots, StructureKind, takes, takes_for_side, gives, finds_stale, finds_link, finds_side, moves, settles, with_guard_for, is_new_side, is_ready_side}
use Rattle.world.specs.areas.Asking.{MayBeNewest}
use Rattle.world.specs.StepKinds.{StepKind, of_call, of_structure, wanted_of, view_by, MayTake}
use Rattle.world.specs.StepLaws.{IsPublishingStep}
use Rattle.world.proofs.moving.Known.{known_is_so}
use Rattle.world.proofs.mild.Kept.{steps_reply_nothing}
use Rattle.part.specs.Outcomes.{reply_of}
use Rattle.part.specs.Part.{IsPart, LeavesKnown}
use Rattle.part.specs.Asks.{IsWithin, PutsWord}
use Rattle.part.proofs.Asking.{store_puts, exchange_puts, flush_puts, load_puts, fence_puts, done_puts}
use Rattle.phase.proofs.Handing.{same_more}
use Rattle.repair_op.specs.declared.guarded.Guarded.{Guarded}
use Rattle.repair_op.specs.declared.step.RepairEnd.{RepairEnd}
use Rattle.repair_op.specs.declared.step.RepairEnd.TheVariants as ends
use Rattle.repair_op.specs.declared.step.Settling.{Settling}
use Rattle.repair_op.specs.declared.step.Settling.TheVariants as settling
use Rattle.repair_op.specs.declared.step.RepairStep.{RepairStep}
use Rattle.repair_op.specs.declared.step.RepairStep.TheVariants.{Guard, Head, Link, Side, Slots, Free, GiveSlots, Unmark, Give, Ended}
use Rattle.repair_op.specs.declared.op.RepairOp.{RepairOp}
use Rattle.repair_op.specs.Guarded.{guard_of, link_of, RunsHere, KeepsGuarded}
use Rattle.repair_op.specs.Steps.{with_state, settle_wanted, settled, go, guarded_as, with_head, with_side, freed_by, unmarked_by, wanted_in, next_in, wanted, end_at, is_guarded}
use Rattle.repair_op.specs.Stands.{settle_kind, kind_at, SuitsStep}
use Rattle.repair_op.specs.RepairPart.{outcome_of, outcome_at, settle_left, left_at, settle_waiting, waiting_at, repair_part, BeginsAsRepair, BeginsUndecided, HandsOnGuarded, EndsAsSaid}
use Rattle.repair_op.proofs.Words.{head_is, slots_is, guard_is, link_is, guard_low, header_low, link_low, header_line}
use Rattle.repair_op.proofs.Finding.{guard_may, guard_stands, head_may, head_stands, link_may, link_stands, side_may, side_stands}
use Rattle.repair_op.proofs.Storing.{state_small}
use Rattle.repair_op.proofs.Freeing.{slots_take_may, slots_won, slots_lost, free_store_may, free_store_stands, free_flush_stands, free_fence_may, free_fence_stands, slots_may, slots_stands}
use Rattle.repair_op.proofs.Unmarking.{unmark_store_may, unmark_store_stands, unmark_flush_stands, unmark_fence_may, unmark_fence_stands}
use Rattle.repair_op.proofs.Giving.{give_may, give_stands}

-- ---- one step
module _ (site : Ground) (ground : IsGround site) (here : Site) (call : Call) (op : RepairOp) (runs : RunsHere site here op.guarded) (v : View) where
  abbrev g : Guarded
  g = op.guarded

  abbrev Suited : RepairStep → Type 0
  Suited s = SuitsStep site here call g s v

  -- a segment that lives is one of the image
  live_within : (words : Words) → MayBeNewest site v words → Has (Lives g.segment) v.facts → g.segment < site.shape.segments
  live_within words new lives = (new.says (Lives g.segment) lives).slot

  pub within_by : (s : RepairStep) (words : Words) → MayBeNewest site v words → Suited s → wanted_in op s ≢ want.Done → g.segment < site.shape.segments
  within_by Guard words new s asks = live_within words new s.1
  within_by Head words new s asks = s.0
  within_by Link words new s asks = s.0.old.within
  within_by (Side slot) words new s asks = s.0.old.within
  within_by (Slots slot side) words new s asks = s.0.cut.old.within
  within_by (Free slot side settling) words new s asks = s.0.cut.old.within
  within_by GiveSlots words new s asks = s.cut.old.within
  within_by (Unmark settling) words new s asks = s.cut.old.within
  within_by (Give end) words new s asks = s.1.within
  within_by (Ended end) words new s asks = absurd (asks refl)

  settle_wants : (settling : Settling) (row : Row) (slot x word : ℕ) → word ≡ header_word site.shape slot
      → settle_wanted settling word x ≡ wanted_of site.shape (settle_kind settling (of_structure (moves row slot x)) word)
  settle_wants settling.Store row slot x word is = ap (λ i. want.Store i x) is
  settle_wants settling.Flush row slot x word is = refl
  settle_wants settling.Fence row slot x word is = refl

  wants_at : (s : RepairStep) (words : Words) → MayBeNewest site v words → Suited s → wanted_in op s ≢ want.Done → wanted_in op s ≡ wanted_of site.shape (kind_at g s)
  wants_at Guard words new s asks = ap (λ i. want.Exchange i 0 g.site.caller) (guard_is site g runs.shape (live_within words new s.1))
  wants_at Head words new s asks = ap want.Load (head_is site g runs.shape g.segment s.0)
  wants_at Link words new s asks = ap want.Load (link_is site g runs.shape s.0.old.within)
  wants_at (Side slot) words new s asks = ap want.Load (head_is site g runs.shape slot s.1)
  wants_at (Slots slot side) words new s asks = ap (λ i. want.Exchange i 0 g.site.caller) (slots_is site g runs.shape)
  wants_at (Free slot side settling) words new s asks = settle_wants settling (frees g.segment) slot (with_state side free) _ (head_is site g runs.shape slot s.0.within)
  wants_at GiveSlots words new s asks = ap (λ i. want.Store i 0) (slots_is site g runs.shape)
  wants_at (Unmark settling) words new s asks = settle_wants settling unmarks g.segment (with_state g.head normal) _ (head_is site g runs.shape g.segment s.cut.old.within)
  wants_at (Give end) words new s asks = ap (λ i. want.Store i 0) (guard_is site g runs.shape s.1.within)
  wants_at (Ended end) words new s asks = absurd (asks refl)

  may_at : (s : RepairStep) → Suited s → MayTake site (kind_at g s) v
  may_at Guard s = guard_may site here call op runs v s
  may_at Head s = head_may site here call op runs v s
  may_at Link s = link_may site here call op runs v s
  may_at (Side slot) s = side_may site here call op runs v slot s
  may_at (Slots slot side) s = slots_take_may site ground here call g runs v slot side s
  may_at (Free slot side settling.Store) s = free_store_may site ground here call g runs v slot side s
  may_at (Free slot side settling.Flush) s = (tt, tt)
  may_at (Free slot side settling.Fence) s = free_fence_may site ground here call g runs v slot side s
  may_at GiveSlots s = slots_may site ground here call g runs v s
  may_at (Unmark settling.Store) s = unmark_store_may site ground here call g runs v s
  may_at (Unmark settling.Flush) s = (tt, tt)
  may_at (Unmark settling.Fence) s = unmark_fence_may site ground here call g runs v s
  may_at (Give end) s = give_may site g v s.1
  may_at (Ended end) s = (tt, tt)

  abbrev Stood : RepairOp → View → Type 0
  Stood o u = SuitsStep site here call o.guarded o.step u

  slots_by : (won : Bool) (slot side n : ℕ) → Suited (Slots slot side) → Stood (next_in op (Slots slot side) (if won then Won else Lost n)) (with_guard_for site.shape won slot v)
  slots_by true slot side n s = slots_won site ground here call g runs v slot side s
  slots_by false slot side n s = (tt, slots_lost site ground here call g runs v slot side s)

  given_suits : (end : RepairEnd) (n : ℕ) → Suited (Give end) → SuitsStep site here call g (Ended end) (view_by site.shape (kind_at g (Give end)) n v)
  given_suits ends.Current n s = give_stands site g v s.1 n
  given_suits (ends.Again why) n s = give_stands site g v s.1 n
  given_suits ends.Guarded n s = absurd s.0

  -- THE VIEW AFTER stands for the next step
  stands_at : (s : RepairStep) (words : Words) (n : ℕ) → MayBeNewest site v words → Suited s → wanted_in op s ≢ want.Done → n < 2 ^ 64 → words (word_of site.shape (wanted_in op s)) ≡ n
      → Stood (next_in op s (answer_to (wanted_in op s) n)) (view_by site.shape (kind_at g s) n v)
  stands_at Guard words n new s asks small found = guard_stands site here call op runs v (n == 0) n (live_within words new s.1) s
  stands_at Head words n new s asks small found = head_stands site here call op runs v words new n small (sym found ∙ ap words (head_is site g runs.shape g.segment s.0)) s
  stands_at Link words n new s asks small found = link_stands site here call op runs v words new n (sym found ∙ ap words (link_is site g runs.shape s.0.old.within)) s
  stands_at (Side slot) words n new s asks small found = side_stands site here call op runs v words new slot n small (sym found ∙ ap words (head_is site g runs.shape slot s.1)) s
  stands_at (Slots slot side) words n new s asks small found = slots_by (n == 0) slot side n s
  stands_at (Free slot side settling.Store) words n new s asks small found = free_store_stands site ground here call g runs v slot side n s
  stands_at (Free slot side settling.Flush) words n new s asks small found = free_flush_stands site ground here call g runs v slot side n s
  stands_at (Free slot side settling.Fence) words n new s asks small found = free_fence_stands site ground here call g runs v slot side n s
  stands_at GiveSlots words n new s asks small found = slots_stands site ground here call g runs v n s
  stands_at (Unmark settling.Store) words n new s asks small found = unmark_store_stands site ground here call g runs v n s
  stands_at (Unmark settling.Flush) words n new s asks small found = unmark_flush_stands site ground here call g runs v n s
  stands_at (Unmark settling.Fence) words n new s asks small found = unmark_fence_stands site ground here call g runs v n s
  stands_at (Give end) words n new s asks small found = given_suits end n s
  stands_at (Ended end) words n new s asks small found = absurd (asks refl)

-- ---- it runs where it ran, and repairs the same segment
module _ {X : Type 0} (f : Guarded → X) (heads : (g : Guarded) (head : ℕ) → f (with_head g head) ≡ f g) (sides : (g : Guarded) (slot : ℕ) → f (with_side g slot) ≡ f g) (op : RepairOp) where
  side_stays : (slot n : ℕ) (r w : Bool) → f (if r then guarded_as (with_side op.guarded slot) else if w then go op (Slots slot n) else go op (Unmark settling.Store)).guarded ≡ f op.guarded
  side_stays slot n true w = sides op.guarded slot
  side_stays slot n false true = refl
  side_stays slot n false false = refl

  unmark_stays : (settling : Settling) → f (unmarked_by (settled settling) op).guarded ≡ f op.guarded
  unmark_stays settling.Store = refl
  unmark_stays settling.Flush = refl
  unmark_stays settling.Fence = heads op.guarded (with_state op.guarded.head normal)

  pub kept_stays : (s : RepairStep) (a : Ans) → f (next_in op s a).guarded ≡ f op.guarded
  kept_stays Guard Won = refl
  kept_stays Guard (Lost seen) = refl
  kept_stays Head (Value n) = heads op.guarded n
  kept_stays Link (Value n) = refl
  kept_stays (Side slot) (Value n) = side_stays slot n (is_ready_side (depth_in op.guarded.head) (pattern_in op.guarded.head) n) (is_new_side (depth_in op.guarded.head) (pattern_in op.guarded.head) n)
  kept_stays (Slots slot side) Won = refl
  kept_stays (Slots slot side) (Lost seen) = refl
  kept_stays (Free slot side settling) Passed = refl
  kept_stays GiveSlots Passed = refl
  kept_stays (Unmark settling) Passed = unmark_stays settling
  kept_stays (Give end) Passed = refl
  kept_stays s a = refl

site_stays : (op : RepairOp) (s : RepairStep) (a : Ans) → (next_in op s a).guarded.site ≡ op.guarded.site
site_stays op s a = kept_stays (λ g. g.site) (λ g head. refl) (λ g slot. refl) op s a

runs_still : (site : Ground) (here : Site) (g h : Guarded) → h.site ≡ g.site → RunsHere site here g → RunsHere site here h
runs_still site here g h same runs = record {
  at = same ∙ runs.at;
  shape = ap (λ (s : Site). s.geometry) same ∙ runs.shape;
  version = ap (λ (s : Site). s.version) same ∙ runs.version;
  numbered = subst (λ (s : Site). 0 < s.caller) (sym same) runs.numbered;
  caller = subst (λ (s : Site). s.caller < 2 ^ 64) (sym same) runs.caller;
}

-- ---- replies: it has none, and enters none
none_told : (end : RepairEnd) → reply_of (outcome_of end) ≡ None
none_told ends.Current = refl
none_told (ends.Again why) = refl
none_told ends.Guarded = refl

none_replied : (s : RepairStep) → reply_of (outcome_at s) ≡ None
none_replied (Give end) = none_told end
none_replied (Ended end) = none_told end
none_replied s = refl

-- what is replied and seen is the same
module _ (site : Ground) (g : Guarded) (n : ℕ) (v : View) where
  abbrev Same : StepKind → Type 0
  Same kind = ((view_by site.shape kind n v).own ≡ v.own) × ((view_by site.shape kind n v).seen ≡ v.seen)

  structure_same : (kind : StructureKind) → Same (of_structure kind)
  structure_same kind = (steps_reply_nothing.own site kind (λ i. n) v, steps_reply_nothing.seen site kind (λ i. n) v)

  settle_same : (settling : Settling) (kind : StructureKind) (word : ℕ) → Same (settle_kind settling (of_structure kind) word)
  settle_same settling.Store kind word = structure_same kind
  settle_same settling.Flush kind word = (refl, refl)
  settle_same settling.Fence kind word = structure_same (settles [])

  same_at : (s : RepairStep) → Same (kind_at g s)
  same_at Guard = structure_same (takes (of_segment g.segment) g.site.caller)
  same_at Head = structure_same (finds_stale g.segment g.site.version)
  same_at Link = structure_same (finds_link g.segment (depth_in g.head) (pattern_in g.head))
  same_at (Side slot) = structure_same (finds_side g.segment slot (depth_in g.head) (pattern_in g.head))
  same_at (Slots slot side) = structure_same (takes_for_side slot g.site.caller)
  same_at (Free slot side settling) = settle_same settling (moves (frees g.segment) slot (with_state side free)) (head_word g.site.geometry slot)
  same_at GiveSlots = structure_same (gives of_free_slots)
  same_at (Unmark settling) = settle_same settling (moves unmarks g.segment (with_state g.head normal)) (head_word g.site.geometry g.segment)
  same_at (Give end) = structure_same (gives (of_segment g.segment))
  same_at (Ended end) = (refl, refl)

enters_at : (site : Ground) (call : Call) (g : Guarded) (before v : View) (s t : RepairStep) (n : ℕ) → EntersReply call (reply_of (outcome_at s)) before v
    → EntersReply call (reply_of (outcome_at t)) before (view_by site.shape (kind_at g s) n v)
enters_at site call g before v s t n enters =
    let u : View = view_by site.shape (kind_at g s) n v in
    let same = same_at site g n v s in
    subst (λ o. EntersReply call o before u) (sym (none_replied t))
    (same_more call before v None u (subst (λ o. EntersReply call o before v) (none_replied s) enters) same.0 same.1)

-- ---- it makes no change, and cuts no power
settle_makes : (settling : Settling) (row : Row) (slot x word : ℕ) → IsPublishingStep (settle_kind settling (of_structure (moves row slot x)) word) → ⊥
settle_makes settling.Store row slot x word p = p
settle_makes settling.Flush row slot x word p = p
settle_makes settling.Fence row slot x word p = p

makes_none : (g : Guarded) (s : RepairStep) → IsPublishingStep (kind_at g s) → ⊥
makes_none g Guard p = p
makes_none g Head p = p
makes_none g Link p = p
makes_none g (Side slot) p = p
makes_none g (Slots slot side) p = p
makes_none g (Free slot side settling) p = settle_makes settling (frees g.segment) slot (with_state side free) (head_word g.site.geometry slot) p
makes_none g GiveSlots p = p
makes_none g (Unmark settling) p = settle_makes settling unmarks g.segment (with_state g.head normal) (head_word g.site.geometry g.segment) p
makes_none g (Give end) p = p
makes_none g (Ended end) p = p

settle_power : (settling : Settling) (row : Row) (slot x word : ℕ) → settle_kind settling (of_structure (moves row slot x)) word ≢ of_call cuts_power
settle_power settling.Store row slot x word same = absurd (cc)
settle_power settling.Flush row slot x word same = absurd (cc)
settle_power settling.Fence row slot x word same = absurd (cc)

power_at : (g : Guarded) (s : RepairStep) → kind_at g s ≢ of_call cuts_power
power_at g Guard same = absurd (cc)
power_at g Head same = absurd (cc)
power_at g Link same = absurd (cc)
power_at g (Side slot) same = absurd (cc)
power_at g (Slots slot side) same = absurd (cc)
power_at g (Free slot side settling) same = settle_power settling (frees g.segment) slot (with_state side free) (head_word g.site.geometry slot) same
power_at g GiveSlots same = absurd (cc)
power_at g (Unmark settling) same = settle_power settling unmarks g.segment (with_state g.head normal) (head_word g.site.geometry g.segment) same
power_at g (Give end) same = absurd (cc)
power_at g (Ended end) same = absurd (cc)

-- ---- fewer events are left
head_left : (t u : Bool) → left_at (if t then Give ends.Current else if u then Link else Ended ends.Guarded) < 11
head_left true u = omega arith
head_left false true = omega arith
head_left false false = omega arith

side_left : (op : RepairOp) (slot n : ℕ) (r w : Bool) → left_at (if r then guarded_as (with_side op.guarded slot) else if w then go op (Slots slot n) else go op (Unmark settling.Store)).step < 9
side_left op slot n true w = omega arith
side_left op slot n false true = omega arith
side_left op slot n false false = omega arith

free_left : (slot side : ℕ) (settling : Settling) → left_at (freed_by (settled settling) slot side) < 4 + settle_left settling
free_left slot side settling.Store = omega arith
free_left slot side settling.Flush = omega arith
free_left slot side settling.Fence = omega arith

unmark_left : (op : RepairOp) (settling : Settling) → left_at (unmarked_by (settled settling) op).step < settle_left settling
unmark_left op settling.Store = omega arith
unmark_left op settling.Flush = omega arith
unmark_left op settling.Fence = omega arith

-- each event that settles a word passes
settle_answered : (settling : Settling) (word x : ℕ) (a : Ans) → IsAnswer (settle_wanted settling word x) a → a ≡ Passed
settle_answered settling.Store word x Passed i = refl
settle_answered settling.Store word x a i = absurd i
settle_answered settling.Flush word x Passed i = refl
settle_answered settling.Flush word x a i = absurd i
settle_answered settling.Fence word x Passed i = refl
settle_answered settling.Fence word x a i = absurd i

falls_at : (op : RepairOp) (s : RepairStep) (a : Ans) → IsAnswer (wanted_in op s) a → left_at (next_in op s a).step < left_at s
falls_at op Guard Won i = omega arith
falls_at op Guard (Lost n) i = omega arith
falls_at op Guard a i = absurd i
falls_at op Head (Value n) i = head_left (version_in n == op.guarded.site.version) (state_in n == splitting)
falls_at op Head a i = absurd i
falls_at op Link (Value zero) i = omega arith
falls_at op Link (Value (suc slot)) i = omega arith
falls_at op Link a i = absurd i
falls_at op (Side slot) (Value n) i = side_left op slot n (is_ready_side (depth_in op.guarded.head) (pattern_in op.guarded.head) n) (is_new_side (depth_in op.guarded.head) (pattern_in op.guarded.head) n)
falls_at op (Side slot) a i = absurd i
falls_at op (Slots slot side) Won i = omega arith
falls_at op (Slots slot side) (Lost n) i = omega arith
falls_at op (Slots slot side) a i = absurd i
falls_at op (Free slot side settling) a i =
    subst (λ (x : Ans). left_at (next_in op (Free slot side settling) x).step < 4 + settle_left settling) (sym (settle_answered settling _ _ a i)) (free_left slot side settling)
falls_at op GiveSlots Passed i = omega arith
falls_at op GiveSlots a i = absurd i
falls_at op (Unmark settling) a i =
    subst (λ (x : Ans). left_at (next_in op (Unmark settling) x).step < settle_left settling) (sym (settle_answered settling _ _ a i)) (unmark_left op settling)
falls_at op (Give end) Passed i = omega arith
falls_at op (Give end) a i = absurd i
falls_at op (Ended end) a i = absurd i

settle_most : (settling : Settling) → settle_left settling ≤ 3
settle_most settling.Store = omega arith
settle_most settling.Flush = omega arith
settle_most settling.Fence = omega arith

most_at : (s : RepairStep) → left_at s ≤ 12
most_at (Free slot side settling) = let most = settle_most settling in omega (arith, most)
most_at (Unmark settling) = let most = settle_most settling in omega (arith, most)
most_at s = omega arith

-- ---- one line at most waits for its fence
settle_waits : (settling : Settling) → settle_waiting settling ≤ 1
settle_waits settling.Store = omega arith
settle_waits settling.Flush = omega arith
settle_waits settling.Fence = omega arith

waits_few : (s : RepairStep) → waiting_at s ≤ 1
waits_few (Free slot side settling) = settle_waits settling
waits_few (Unmark settling) = settle_waits settling
waits_few s = omega arith

free_flushed : (slot side : ℕ) (settling : Settling) (word x l : ℕ) → settle_wanted settling word x ≡ want.Flush l → settle_waiting settling + 1 ≤ waiting_at (freed_by (settled settling) slot side)
free_flushed slot side settling.Store word x l same = absurd (cc)
free_flushed slot side settling.Flush word x l same = omega arith
free_flushed slot side settling.Fence word x l same = absurd (cc)

unmark_flushed : (op : RepairOp) (settling : Settling) (word x l : ℕ) → settle_wanted settling word x ≡ want.Flush l → settle_waiting settling + 1 ≤ waiting_at (unmarked_by (settled settling) op).step
unmark_flushed op settling.Store word x l same = absurd (cc)
unmark_flushed op settling.Flush word x l same = omega arith
unmark_flushed op settling.Fence word x l same = absurd (cc)

flushes_at : (op : RepairOp) (s : RepairStep) (a : Ans) (l : ℕ) → IsAnswer (wanted_in op s) a → wanted_in op s ≡ want.Flush l → waiting_at s + 1 ≤ waiting_at (next_in op s a).step
flushes_at op Guard a l i same = absurd (cc)
flushes_at op Head a l i same = absurd (cc)
flushes_at op Link a l i same = absurd (cc)
flushes_at op (Side slot) a l i same = absurd (cc)
flushes_at op (Slots slot side) a l i same = absurd (cc)
flushes_at op (Free slot side settling) a l i same =
    subst (λ (x : Ans). settle_waiting settling + 1 ≤ waiting_at (next_in op (Free slot side settling) x).step) (sym (settle_answered settling _ _ a i)) (free_flushed slot side settling _ _ l same)
flushes_at op GiveSlots a l i same = absurd (cc)
flushes_at op (Unmark settling) a l i same =
    subst (λ (x : Ans). settle_waiting settling + 1 ≤ waiting_at (next_in op (Unmark settling) x).step) (sym (settle_answered settling _ _ a i)) (unmark_flushed op settling _ _ l same)
flushes_at op (Give end) a l i same = absurd (cc)
flushes_at op (Ended end) a l i same = absurd (cc)

free_kept : (slot side : ℕ) (settling : Settling) (word x : ℕ) → settle_wanted settling word x ≢ want.Fence → settle_waiting settling ≤ waiting_at (freed_by (settled settling) slot side)
free_kept slot side settling.Store word x other = omega arith
free_kept slot side settling.Flush word x other = omega arith
free_kept slot side settling.Fence word x other = absurd (other refl)

unmark_kept : (op : RepairOp) (settling : Settling) (word x : ℕ) → settle_wanted settling word x ≢ want.Fence → settle_waiting settling ≤ waiting_at (unmarked_by (settled settling) op).step
unmark_kept op settling.Store word x other = omega arith
unmark_kept op settling.Flush word x other = omega arith
unmark_kept op settling.Fence word x other = absurd (other refl)

keeps_at : (op : RepairOp) (s : RepairStep) (a : Ans) → IsAnswer (wanted_in op s) a → wanted_in op s ≢ want.Fence → waiting_at s ≤ waiting_at (next_in op s a).step
keeps_at op (Free slot side settling) a i other =
    subst (λ (x : Ans). settle_waiting settling ≤ waiting_at (next_in op (Free slot side settling) x).step) (sym (settle_answered settling _ _ a i)) (free_kept slot side settling _ _ other)
keeps_at op (Unmark settling) a i other =
    subst (λ (x : Ans). settle_waiting settling ≤ waiting_at (next_in op (Unmark settling) x).step) (sym (settle_answered settling _ _ a i)) (unmark_kept op settling _ _ other)
keeps_at op s a i other = omega arith

settle_some : (settling : Settling) (word x : ℕ) → settle_wanted settling word x ≢ want.Done
settle_some settling.Store word x same = absurd (cc)
settle_some settling.Flush word x same = absurd (cc)
settle_some settling.Fence word x same = absurd (cc)

-- ---- where it wants nothing more, it has ended
pub ended_at : (op : RepairOp) (s : RepairStep) → wanted_in op s ≡ want.Done → (end : RepairEnd) × (s ≡ Ended end)
ended_at op Guard done = absurd (let no : want.Exchange (guard_of op.guarded) 0 op.guarded.site.caller ≡ want.Done = done in cc)
ended_at op Head done = absurd (let no : want.Load (head_word op.guarded.site.geometry op.guarded.segment) ≡ want.Done = done in cc)
ended_at op Link done = absurd (let no : want.Load (link_of op.guarded) ≡ want.Done = done in cc)
ended_at op (Side slot) done = absurd (let no : want.Load (head_word op.guarded.site.geometry slot) ≡ want.Done = done in cc)
ended_at op (Slots slot side) done = absurd (let no : want.Exchange (allocation_guard op.guarded.site.geometry) 0 op.guarded.site.caller ≡ want.Done = done in cc)
ended_at op (Free slot side settling) done = absurd (settle_some settling _ _ done)
ended_at op GiveSlots done = absurd (let no : want.Store (allocation_guard op.guarded.site.geometry) 0 ≡ want.Done = done in cc)
ended_at op (Unmark settling) done = absurd (settle_some settling _ _ done)
ended_at op (Give end) done = absurd (let no : want.Store (guard_of op.guarded) 0 ≡ want.Done = done in cc)
ended_at op (Ended end) done = (end, refl)

ends_waiting : (op : RepairOp) (s : RepairStep) → wanted_in op s ≡ want.Done → waiting_at s ≡ 0
ends_waiting op s done = let end = ended_at op s done in ap waiting_at end.1

-- ---- what it asks of the memory
module _ (site : Ground) (here : Site) (call : Call) (op : RepairOp) (runs : RunsHere site here op.guarded) (v : View) where
  abbrev h : Guarded
  h = op.guarded

  in_image : (i : ℕ) → i < words_of site.shape → i < all_words_of site.shape
  in_image i low = omega (arith, low)

  load_in : (i n : ℕ) → i ≡ n → n < words_of site.shape → IsWithin site.shape (want.Load i)
  load_in i n is low = record { word = subst (λ m. m < all_words_of site.shape) (sym is) (in_image n low); line = λ l same. absurd (cc) }

  slots_low : allocation_guard h.site.geometry < all_words_of site.shape
  slots_low = subst (λ m. m < all_words_of site.shape) (sym (slots_is site h runs.shape)) (by (words_of site.shape) site.shape.segments)
    where
      by : (w n : ℕ) → w + 2 < w + 4 + n
      by w n = omega arith

  exchange_in : (i a b : ℕ) → i < all_words_of site.shape → IsWithin site.shape (want.Exchange i a b)
  exchange_in i a b low = record { word = low; line = λ l same. absurd (cc) }

  store_in : (i x : ℕ) → i < all_words_of site.shape → IsWithin site.shape (want.Store i x)
  store_in i x low = record { word = low; line = λ l same. absurd (cc) }

  flush_in : (l : ℕ) → 8 * l + 8 ≤ words_of site.shape → IsWithin site.shape (want.Flush l)
  flush_in l low = record {
    word = omega (arith, low);
    line = λ n same. (let is : l ≡ n = cc in subst (λ m. 8 * m + 8 ≤ words_of site.shape) is low);
  }

  counter_in : (w : Want) → word_of site.shape w ≡ counter_word site.shape → ((l : ℕ) → w ≡ want.Flush l → ⊥) → IsWithin site.shape w
  counter_in w is no_flush = record { word = subst (λ i. i < all_words_of site.shape) (sym is) (omega arith); line = λ l same. absurd (no_flush l same) }

  settle_in : (settling : Settling) (slot x : ℕ) → slot < site.shape.segments → IsWithin site.shape (settle_wanted settling (head_word h.site.geometry slot) x)
  settle_in settling.Store slot x within =
      store_in _ x (subst (λ i. i < all_words_of site.shape) (sym (head_is site h runs.shape slot within)) (in_image _ (header_low site.shape slot within)))
  settle_in settling.Flush slot x within = flush_in _ (subst (λ i. 8 * line_of i + 8 ≤ words_of site.shape) (sym (head_is site h runs.shape slot within)) (header_line site.shape slot within))
  settle_in settling.Fence slot x within = counter_in want.Fence refl (λ l same. absurd (cc))

  within_at : (s : RepairStep) → SuitsStep site here call h s v → IsWithin site.shape (wanted_in op s)
  within_at Guard s = exchange_in _ 0 h.site.caller (guard_low site h runs.shape)
  within_at Head s = load_in _ _ (head_is site h runs.shape h.segment s.0) (header_low site.shape h.segment s.0)
  within_at Link s = load_in _ _ (link_is site h runs.shape s.0.old.within) (link_low site.shape h.segment s.0.old.within)
  within_at (Side slot) s = load_in _ _ (head_is site h runs.shape slot s.1) (header_low site.shape slot s.1)
  within_at (Slots slot side) s = exchange_in _ 0 h.site.caller slots_low
  within_at (Free slot side settling) s = settle_in settling slot (with_state side free) s.0.within
  within_at GiveSlots s = store_in _ 0 slots_low
  within_at (Unmark settling) s = settle_in settling h.segment (with_state h.head normal) s.cut.old.within
  within_at (Give end) s = store_in _ 0 (guard_low site h runs.shape)
  within_at (Ended end) s = counter_in want.Done refl (λ l same. absurd (cc))

  -- ---- what it puts into the memory
  settle_puts : (settling : Settling) (word x : ℕ) → x < 2 ^ 64 → PutsWord (settle_wanted settling word x)
  settle_puts settling.Store word x low = store_puts word x low
  settle_puts settling.Flush word x low = flush_puts _
  settle_puts settling.Fence word x low = fence_puts

  puts_at : (s : RepairStep) → SuitsStep site here call h s v → PutsWord (wanted_in op s)
  puts_at Guard s = exchange_puts _ h.site.caller runs.caller
  puts_at Head s = load_puts _
  puts_at Link s = load_puts _
  puts_at (Side slot) s = load_puts _
  puts_at (Slots slot side) s = exchange_puts _ h.site.caller runs.caller
  puts_at (Free slot side settling) s = settle_puts settling _ (with_state side free) (state_small side free s.0.fits (omega arith))
  puts_at GiveSlots s = store_puts _ 0 (omega arith)
  puts_at (Unmark settling) s = settle_puts settling _ (with_state h.head normal) (state_small h.head normal s.cut.old.fits (omega arith))
  puts_at (Give end) s = store_puts _ 0 (omega arith)
  puts_at (Ended end) s = done_puts

  -- ---- nothing is planned, and nothing held at the end but what is handed on
  end_plan : (end : RepairEnd) → SuitsStep site here call h (Ended end) v → v.planned ≡ []
  end_plan ends.Current s = s.planned
  end_plan (ends.Again why) s = s.planned
  end_plan ends.Guarded s = s.quiet.planned

  no_plan : (s : RepairStep) → SuitsStep site here call h s v → v.planned ≡ []
  no_plan Guard s = s.0.planned
  no_plan Head s = s.1.planned
  no_plan Link s = s.1.planned
  no_plan (Side slot) s = s.2.planned
  no_plan (Slots slot side) s = s.1.planned
  no_plan (Free slot side settling.Store) s = s.1.0.planned
  no_plan (Free slot side settling.Flush) s = s.1.planned
  no_plan (Free slot side settling.Fence) s = s.1.planned
  no_plan GiveSlots s = s.holds.planned
  no_plan (Unmark settling) s = s.holds.planned
  no_plan (Give end) s = s.1.quiet.planned
  no_plan (Ended end) s = end_plan end s

  bare_end : (end : RepairEnd) → SuitsStep site here call h (Ended end) v → is_guarded (Ended end) ≡ false → HoldsOnly [] v
  bare_end ends.Current s closed = s
  bare_end (ends.Again why) s closed = s
  bare_end ends.Guarded s closed = absurd (let no : true ≡ false = closed in cc)

  bare_at : (s : RepairStep) → SuitsStep site here call h s v → wanted_in op s ≡ want.Done → is_guarded s ≡ false → HoldsOnly [] v
  bare_at s suits done closed =
      let end = ended_at op s done in
      bare_end end.0 (subst (λ (t : RepairStep). SuitsStep site here call h t v) end.1 suits) (sym (ap is_guarded end.1) ∙ closed)

  -- WHERE IT HANDS ON the segment is guarded
  guarded_end : (end : RepairEnd) → SuitsStep site here call h (Ended end) v → is_guarded (Ended end) ≡ true → KeepsGuarded site here call h v
  guarded_end ends.Current s hands = absurd (let no : false ≡ true = hands in cc)
  guarded_end (ends.Again why) s hands = absurd (let no : false ≡ true = hands in cc)
  guarded_end ends.Guarded s hands = s

  guarded_at : (s : RepairStep) → SuitsStep site here call h s v → is_guarded s ≡ true → KeepsGuarded site here call h v
  guarded_at (Ended end) s hands = guarded_end end s hands
  guarded_at s suits hands = absurd (let no : false ≡ true = hands in cc)

-- ---- it finds no segment stale
relies_end : (site : Ground) (end : RepairEnd) (facts : List Fact) → LeavesKnown site (outcome_of end) facts
relies_end site ends.Current facts = tt
relies_end site (ends.Again why) facts = tt
relies_end site ends.Guarded facts = tt

relies_at : (site : Ground) (s : RepairStep) (facts : List Fact) → LeavesKnown site (outcome_at s) facts
relies_at site (Give end) facts = relies_end site end facts
relies_at site (Ended end) facts = relies_end site end facts
relies_at site s facts = tt

hands_end : (op : RepairOp) (end : RepairEnd) → is_guarded (Ended end) ≡ true → wanted_in op (Ended end) ≡ want.Done
hands_end op end hands = refl

hands_at : (op : RepairOp) (s : RepairStep) → is_guarded s ≡ true → wanted_in op s ≡ want.Done
hands_at op (Ended end) hands = hands_end op end hands
hands_at op s hands = absurd (let no : false ≡ true = hands in cc)

-- THE BEGINNING OF A REPAIR IS A PART
pub repair_is_part : IsPart repair_part
repair_is_part = record {
  steps = λ site here call words views j op before v h at s asks.
      let n : ℕ = words (word_of site.shape (wanted op)) in
      let next : RepairOp = next_in op op.step (answer_to (wanted op) n) in
      let new = known_is_so.newest site words views j v h at in
      let runs = s.stands.here_is in
      record {
        wants = wants_at site h.site_is here call op runs v op.step words new s.stands.view asks;
        may = may_at site h.site_is here call op runs v op.step s.stands.view;
        stands = λ small. record {
          here_is = runs_still site here op.guarded next.guarded (site_stays op op.step (answer_to (wanted op) n)) runs;
          view = stands_at site h.site_is here call op runs v op.step words n new s.stands.view asks small refl;
        };
        enters = λ small. enters_at site call op.guarded before v op.step next.step n s.enters;
        makes = λ p. absurd (makes_none op.guarded op.step p);
      };
  ends = λ site here call op v s done closed on. bare_at site here call op s.here_is v op.step s.view done closed;
  time = record { falls = λ op a i. inl (falls_at op op.step a i); most = λ op. most_at op.step };
  within = λ site here call op before v good s. within_at site here call op s.stands.here_is v op.step s.stands.view;
  words = λ site here call op before v s. puts_at site here call op s.stands.here_is v op.step s.stands.view;
  flushes = record {
    most = λ op. waits_few op.step;
    flushes = λ op a l i flush. flushes_at op op.step a l i flush;
    keeps = λ op a i no_fence. keeps_at op op.step a i no_fence;
    ends = λ op done. ends_waiting op op.step done;
  };
  made = record { stays = λ op a i made. absurd made; done = λ op made done. absurd made };
  plans = λ site here call op before v planned s has. absurd (subst (λ (l : List Call). Has planned l) (no_plan site here call op s.stands.here_is v op.step s.stands.view) has);
  relies = λ site here call op v s. relies_at site op.step v.facts;
  hands = λ op hands. hands_at op op.step hands;
  power = λ op n. power_at op.guarded op.step;
}

-- ---- where it begins, and how it ends
pub begins_as_repair : BeginsAsRepair
begins_as_repair site here call segment v shape version numbered caller only lives = record {
  here_is = record { at = refl; shape = shape; version = version; numbered = numbered; caller = caller };
  view = (only, lives, refl);
}

pub begins_undecided : BeginsUndecided
begins_undecided here segment = refl

pub hands_on_guarded : HandsOnGuarded
hands_on_guarded site here call op v s hands = guarded_at site here call op s.here_is v op.step s.view hands

pub ends_as_said : EndsAsSaid
ends_as_said op done =
    let end = ended_at op op.step done in
    (end.0, ap end_at end.1, ap outcome_at end.1)
