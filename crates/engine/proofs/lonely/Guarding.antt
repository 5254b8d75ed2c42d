-- A lock that a machine of a split finds taken is one of a segment that its caller knows to be live and current; and of a guard that a machine of a split or
-- of a repair finds taken its caller has not the area.
use Rattle.std.proofs.Common.{◌≡◌, ◌≢◌, ℕ, ◌+◌, ◌*◌, ◌%◌, ◌<◌, ◌≤◌, ◌⊎◌, inl, inr, Bool, true, false, Option, None, Some, List, [], ◌∷◌, refl, sym, ◌∙◌, ap, subst, arith}
use Rattle.std.specs.Prelude.{◌==◌, nat_le, nat_lt, if◌then◌else◌}
use Rattle.std.proofs.lemmas.Option.{none-some, same_Some}
use Rattle.op_core.specs.declared.want.Want.{Want}
use Rattle.op_core.specs.declared.want.Ans.{Ans}
use Rattle.op_core.specs.declared.want.Ans.TheVariants.{Passed}
use Rattle.op_core.specs.declared.why.Why.{Why}
use Rattle.op_core.specs.declared.why.Why.TheVariants.{Busy}
use Rattle.trace.specs.Events.{Words}
use Rattle.segment_head.specs.HeadWord.{version_in, state_in, depth_in, pattern_in, splitting}
use Rattle.image_layout.specs.Places.{Shape, first_segment, head_at, bucket_at, buckets, block, words_of_buckets}
use Rattle.image_layout.specs.Volatile.{counter_word, allocation_guard, directory_guard, segment_guard}
use Rattle.map_model.specs.declared.entry.Reply.TheVariants.{Full}
use Rattle.map_model.specs.declared.call.Call.{Call}
use Rattle.world.specs.declared.site.Site.{Site}
use Rattle.world.specs.Ground.{Ground, IsLockWord, IsCurrentLock}
use Rattle.world.specs.Views.{View, At, Has}
use Rattle.world.specs.Wants.{answer_to}
use Rattle.world.specs.Invariant.{Holds}
use Rattle.world.proofs.moving.Known.{possible_now}
use Rattle.frame_facts.specs.Facts.{Lives}
use Rattle.world.specs.areas.Areas.{Area, Segment, Stale, Side, Allocation, Directory}
use Rattle.world.specs.areas.Kinds.{Guard, of_segment, of_free_slots, of_directory, guard_word, HasGuard, area_of, is_new_side, is_ready_side}
use Rattle.part.specs.Doings.{Doings}
use Rattle.part.specs.Outcomes.{replied, again, finished}
use Rattle.part.specs.Splits.{IsTakenByOthers}
use Rattle.part.specs.Repairs.{IsGuardTaken}
use Rattle.phase.specs.declared.take.Take.{Take}
use Rattle.phase.specs.declared.take.Take.TheVariants.{Look, Try}
use Rattle.phase.specs.Takes.{take_wanted}
use Rattle.rounds.specs.declared.rounds.Rounds.{Rounds}
use Rattle.rounds.specs.Steps.{rounds_stores, rounds_wanted, rounds_taken}
use Rattle.enclose_op.specs.declared.enclosed.Enclosed.{Enclosed}
use Rattle.enclose_op.specs.declared.op.EncloseStep.{EncloseStep}
use Rattle.enclose_op.specs.declared.op.EncloseStep.TheVariants as enclose
use Rattle.enclose_op.specs.Whole.{IsOf}
use Rattle.enclose_op.specs.declared.give.Give.{Give}
use Rattle.enclose_op.specs.Giving.{lock_of, given}
use Rattle.enclose_op.specs.Steps.{wanted_in as enclose_wanted_in}
use Rattle.enclose_op.specs.Fits.{outcome_of as enclose_outcome_of, outcome_at as enclose_outcome_at, SuitsStep as EncloseSuits}
use Rattle.enclose_op.proofs.Places.{guard_apart, bucket_is, lock_is, head_is, guard_is}
use Rattle.split_op.specs.declared.batch.Batch.{Batch}
use Rattle.split_op.specs.declared.op.SplitOp.{SplitOp}
use Rattle.split_op.specs.declared.step.SplitEnd.{SplitEnd}
use Rattle.split_op.specs.declared.step.SplitStep.{SplitStep}
use Rattle.split_op.specs.declared.step.SplitStep.TheVariants as split
use Rattle.split_op.specs.Steps.{wanted_in as split_wanted_in, next_in as split_next_in}
use Rattle.split_op.specs.Fits.{outcome_of as split_outcome_of, outcome_at as split_outcome_at, SuitsStep as SplitSuits}
use Rattle.split_op.proofs.SplitIsPart.{open_search, open_look, open_put, same_outcome}
use Rattle.repair_op.specs.declared.op.RepairOp.{RepairOp}
use Rattle.repair_op.specs.declared.step.RepairEnd.TheVariants as repair_ends
use Rattle.repair_op.specs.declared.step.Settling.TheVariants as settling
use Rattle.repair_op.specs.declared.step.RepairStep.{RepairStep}
use Rattle.repair_op.specs.declared.step.RepairStep.TheVariants as repair
use Rattle.repair_op.specs.Guarded.{RunsHere}
use Rattle.repair_op.specs.Steps.{wanted_in as repair_wanted_in, next_in as repair_next_in}
use Rattle.repair_op.specs.Stands.{SuitsStep as RepairSuits}
use Rattle.repair_op.specs.RepairPart.{outcome_at as repair_outcome_at}
use Rattle.redirect_op.specs.declared.op.RedirectOp.{RedirectOp}
use Rattle.redirect_op.specs.declared.step.RedirectStep.{RedirectStep}
use Rattle.redirect_op.specs.declared.step.RedirectStep.TheVariants as redirect
use Rattle.redirect_op.specs.Steps.{go, store_to, with_rounds, last_entry, behind, settle_by, stored_by, settled_to, wanted_in as redirect_wanted_in, next_in as redirect_next_in}
use Rattle.redirect_op.specs.Stands.{SuitsStep as RedirectSuits}
use Rattle.redirect_op.specs.Ends.{outcome_at as redirect_outcome_at}
use Rattle.engine.proofs.lonely.Repairing.{side_none, link_none}
use Rattle.engine.proofs.lonely.Looking.{IsAbout, known_current, header_none, counter_none}

-- WHAT IS FOUND TAKEN: a lock of a current segment, or a guard of which the view has not the area
pub data IsFoundTaken (site : Ground) (words : Words) (v : View) (word value : ℕ) : Type 0 where
  a_lock : IsCurrentLock site words word → value % 2 ≡ 1 → IsFoundTaken site words v word value
  a_guard : (guard : Guard) → HasGuard site.shape guard → word ≡ guard_word site.shape guard → value ≢ 0 → (Has (area_of guard) v.areas → ⊥) → IsFoundTaken site words v word value

-- ---- numbers
module _ (shape : Shape) where
  -- a word of the image, or the counter, is no guard
  abbrev IsLow : ℕ → Type 0
  IsLow i = i ≤ first_segment shape + 2144 * shape.segments

  allocation_apart : (s b : ℕ) → s < shape.segments → b < buckets → bucket_at shape s b ≡ allocation_guard shape → ⊥
  allocation_apart s b within near is = by (first_segment shape) s shape.segments b within near is
    where
      by : (f s n b : ℕ) → s < n → b < 66 → f + 2144 * s + 32 + 32 * b ≡ f + 2144 * n + 2 → ⊥
      by f s n b within near is = omega (arith, within, near, is)

  low_apart : (s word : ℕ) → IsLow word → (word ≡ segment_guard shape s) ⊎ (word ≡ allocation_guard shape) → ⊥
  low_apart s word low (inl is) = by (first_segment shape) shape.segments s word low is
    where
      by : (f n s word : ℕ) → word ≤ f + 2144 * n → word ≡ f + 2144 * n + 4 + s → ⊥
      by f n s word low is = omega (arith, low, is)
  low_apart s word low (inr is) = by (first_segment shape) shape.segments word low is
    where
      by : (f n word : ℕ) → word ≤ f + 2144 * n → word ≡ f + 2144 * n + 2 → ⊥
      by f n word low is = omega (arith, low, is)

  counter_low : IsLow (counter_word shape)
  counter_low = by (first_segment shape) shape.segments
    where
      by : (f n : ℕ) → f + 2144 * n ≤ f + 2144 * n
      by f n = omega arith

  header_low : (s : ℕ) → s < shape.segments → IsLow (head_at shape s + 1)
  header_low s within = by (first_segment shape) s shape.segments within
    where
      by : (f s n : ℕ) → s < n → f + 2144 * s + 1 ≤ f + 2144 * n
      by f s n within = omega (arith, within)

  lock_low : (s b : ℕ) → s < shape.segments → b < buckets → IsLow (bucket_at shape s b)
  lock_low s b within near = by (first_segment shape) s shape.segments b within near
    where
      by : (f s n b : ℕ) → s < n → b < 66 → f + 2144 * s + 32 + 32 * b ≤ f + 2144 * n
      by f s n b within near = omega (arith, within, near)

  word_low : (s at : ℕ) → s < shape.segments → at < words_of_buckets → IsLow (bucket_at shape s 0 + at)
  word_low s at within last = by (first_segment shape) s shape.segments at within last
    where
      by : (f s n at : ℕ) → s < n → at < 2112 → f + 2144 * s + 32 + 32 * 0 + at ≤ f + 2144 * n
      by f s n at within last = omega (arith, within, last)

  word_none : (s at : ℕ) → at % block ≢ 0 → IsLockWord shape (bucket_at shape s 0 + at) → ⊥
  word_none s at apart lock = by (first_segment shape) s at lock.0 lock.1 apart lock.4
    where
      by : (f s at q b : ℕ) → at % 32 ≢ 0 → f + 2144 * s + 32 + 32 * 0 + at ≡ f + 2144 * q + 32 + 32 * b → ⊥
      by f s at q b apart is = omega (arith, apart, is)

take_about : (lock word : ℕ) (take : Take) → IsAbout (take_wanted lock take) word → lock ≡ word
take_about lock word Look about = about
take_about lock word (Try free) about = about

-- ---- in the world, for the caller with this view, which splits this segment
module _ (site : Ground) (words : Words) (views : List View) (h : Holds site words views) (j : ℕ) (v : View) (at : At views j v) (here : Site) (call : Call) (did : Doings)
    (e : Enclosed) (is : IsOf site here call e) (word value : ℕ) (taken : IsTakenByOthers site.shape words did call e.segment word value) where
  abbrev Found : Type 0
  Found = IsFoundTaken site words v word value

  -- it is one of its locks, or a guard that is needed
  abbrev IsLockHere : Type 0
  IsLockHere = (b : ℕ) × (b < buckets) × (word ≡ bucket_at site.shape e.segment b)

  abbrev IsGuardHere : Type 0
  IsGuardHere = (word ≡ segment_guard site.shape e.segment) ⊎ (word ≡ allocation_guard site.shape)

  by_needed : (IsLockHere → value % 2 ≡ 1 → Found) → (IsGuardHere → value ≢ 0 → Found) → Found
  by_needed lock guard = elim taken.needed [
    | inl p ↦ lock p.0.1 p.1
    | inr p ↦ elim p.0 [ inl own ↦ guard (inl own) p.1 | inr free ↦ guard (inr free.0) p.1 ]
  ]

  is_lock : IsLockHere → IsLockWord site.shape word
  is_lock lock = (e.segment, lock.0, is.located.within, lock.1, lock.2)

  -- neither is found by a load of another word
  elsewhere : (IsLockWord site.shape word → ⊥) → IsLow site.shape word → Found
  elsewhere none low = by_needed (λ lock odd. absurd (none (is_lock lock))) (λ guard some. absurd (low_apart site.shape e.segment word low guard))

  -- a guard, where the view has not its area
  guard_found : ((guard : Guard) → Has (area_of guard) v.areas → ⊥) → IsGuardHere → value ≢ 0 → Found
  guard_found own (inl segment) some = a_guard (of_segment e.segment) is.located.within segment some (own (of_segment e.segment))
  guard_found own (inr free) some = a_guard of_free_slots tt free some (own of_free_slots)

  counter_found : counter_word e.site.geometry ≡ word → Found
  counter_found about =
      let same = ap counter_word (sym is.located.shape) ∙ about in
      elsewhere (subst (λ (i : ℕ). IsLockWord site.shape i → ⊥) same (counter_none site.shape)) (subst (IsLow site.shape) same (counter_low site.shape))

  -- ---- the enclosing
  pub enclose_found : (s : EncloseStep) → EncloseSuits site here call e s v → enclose_outcome_at s ≡ None → IsAbout (enclose_wanted_in e s) word → Found
  enclose_found enclose.Guard suits none about =
      by_needed (λ lock odd. absurd (guard_apart site e.segment lock.0 is.located.within lock.1 (sym lock.2 ∙ (sym about ∙ guard_is site e is.located))))
      (guard_found (λ guard has. subst (λ (l : List Area). Has (area_of guard) l) suits.0.areas has))
  enclose_found (enclose.Lock b take) suits none about =
      let same : word ≡ bucket_at site.shape e.segment b = sym (take_about (lock_of e b) word take about) ∙ lock_is site e is.located b suits.1 in
      by_needed (λ lock odd. a_lock (known_current site words views h j v at word (e.segment, b, is.located.within, suits.1, same, suits.0.there.lives, suits.0.there.current)) odd)
      (λ guard some. absurd (low_apart site.shape e.segment word (subst (IsLow site.shape) (sym same) (lock_low site.shape e.segment b is.located.within suits.1)) guard))
  enclose_found enclose.Head suits none about =
      let same = sym (head_is site e is.located) ∙ about in
      elsewhere (subst (λ (i : ℕ). IsLockWord site.shape i → ⊥) same (header_none site.shape e.segment)) (subst (IsLow site.shape) same (header_low site.shape e.segment is.located.within))
  enclose_found (enclose.Fill n) suits none about =
      let same = sym (ap (λ i. i + n) (bucket_is site e is.located 0)) ∙ about in
      elsewhere (subst (λ (i : ℕ). IsLockWord site.shape i → ⊥) same (word_none site.shape e.segment n suits.1.no_lock))
      (subst (IsLow site.shape) same (word_low site.shape e.segment n is.located.within suits.1.last))
  enclose_found (enclose.CountSpent b) suits none about = counter_found about
  enclose_found enclose.CountDeep suits none about = counter_found about
  enclose_found (enclose.Give give end) suits none about = absurd (none-some (enclose_outcome_of end) (sym none))
  enclose_found (enclose.Ended end) suits none about = absurd (none-some (enclose_outcome_of end) (sym none))
  enclose_found enclose.Whole suits none about = absurd about

-- ---- the making of a side tells of the guard of free slots alone
module _ (op : SplitOp) (why : Why) where
  no_put : (batch : Batch) (rounds : Rounds) (a : Ans) → split_outcome_at (split_next_in op (split.Put batch rounds) a).step ≡ Some (again why) → ⊥
  no_put batch rounds Passed some = none-some (again why) (sym (open_put _ _ _) ∙ some)
  no_put batch rounds a some = none-some (again why) some

  no_back : (give : Give) (end : SplitEnd) (a : Ans) → split_outcome_of end ≡ None
      → split_outcome_at (split_next_in op (split.Back give end) a).step ≡ Some (again why) → ⊥
  no_back give end Passed none some = none-some (again why) (sym none ∙ (sym (same_outcome (given give) end) ∙ some))
  no_back give end a none some = none-some (again why) (sym none ∙ some)

  pub split_told : (s : SplitStep) (n : ℕ) → split_outcome_at s ≡ None → split_outcome_at (split_next_in op s (answer_to (split_wanted_in op s) n)).step ≡ Some (again why) → s ≡ split.Take
  split_told split.Take n none some = refl
  split_told (split.Search slot) n none some = absurd (none-some (again why) (sym (open_search op slot n) ∙ some))
  split_told split.Count n none some = absurd (let same = same_Some (replied Full n) (again why) some in cc)
  split_told (split.Return count) n none some = absurd (none-some (replied Full count) (sym none))
  split_told (split.Look b) n none some = absurd (none-some (again why) (sym (open_look b) ∙ some))
  split_told (split.Put batch rounds) n none some = absurd (no_put batch rounds _ some)
  split_told split.Release n none some = absurd (none-some (again why) (sym (open_put _ _ _) ∙ some))
  split_told (split.Back give end) n none some = absurd (no_back give end _ none some)
  split_told (split.Ended end) n none some = absurd (none-some (again why) (sym none ∙ some))

module _ (site : Ground) (words : Words) (views : List View) (h : Holds site words views) (j : ℕ) (v : View) (at : At views j v) (here : Site) (call : Call) (did : Doings)
    (op : SplitOp) (is : IsOf site here call op.copied.whole) (word value : ℕ) (taken : IsTakenByOthers site.shape words did call op.copied.whole.segment word value) where
  -- a view that has the guard of the segment alone has not that of free slots
  no_allocation : (s : ℕ) → v.areas ≡ Segment s ∷ [] → Has Allocation v.areas → ⊥
  no_allocation s areas has = elim (subst (Has Allocation) areas has) [ inl same ↦ absurd (cc) | inr none ↦ none ]

  pub split_found : SplitSuits site here call op.copied op.locks split.Take v → IsAbout (split_wanted_in op split.Take) word → IsFoundTaken site words v word value
  split_found suits about =
      let e : Enclosed = op.copied.whole in
      let same : word ≡ allocation_guard site.shape = sym about ∙ ap allocation_guard is.located.shape in
      by_needed site words views h j v at here call did e is word value taken
      (λ lock odd. absurd (allocation_apart site.shape e.segment lock.0 is.located.within lock.1 (sym lock.2 ∙ same)))
      (λ guard some. a_guard of_free_slots tt same some (no_allocation e.segment suits.0.areas))

-- ---- THE BEGINNING OF A REPAIR tells of the guard of the segment, and of that of free slots
module _ (op : RepairOp) (word value : ℕ) where
  abbrev Tells : RepairStep → Type 0
  Tells s = repair_outcome_at s ≡ Some (again (Busy word value))

  -- it tries the guard of the segment, or that of free slots
  pub data IsTrying (s : RepairStep) : Type 0 where
    tries_segment : s ≡ repair.Guard → IsTrying s
    tries_slots : (slot side : ℕ) → s ≡ repair.Slots slot side → IsTrying s

  by_version : (t u : Bool) → Tells (if t then repair.Give repair_ends.Current else if u then repair.Link else repair.Ended repair_ends.Guarded) → ⊥
  by_version true u some = absurd (let same = same_Some finished (again (Busy word value)) some in cc)
  by_version false true some = none-some (again (Busy word value)) some
  by_version false false some = none-some (again (Busy word value)) some

  pub repair_told : (s : RepairStep) (n : ℕ) → repair_outcome_at s ≡ None → Tells (repair_next_in op s (answer_to (repair_wanted_in op s) n)).step → IsTrying s
  repair_told repair.Guard n none some = tries_segment refl
  repair_told repair.Head n none some = absurd (by_version (version_in n == op.guarded.site.version) (state_in n == splitting) some)
  repair_told repair.Link n none some = absurd (none-some (again (Busy word value)) (sym (link_none op n) ∙ some))
  repair_told (repair.Side slot) n none some =
      absurd (none-some (again (Busy word value)) (sym (side_none op slot n (is_ready_side (depth_in op.guarded.head) (pattern_in op.guarded.head) n) (is_new_side (depth_in op.guarded.head) (pattern_in op.guarded.head) n)) ∙ some))
  repair_told (repair.Slots slot side) n none some = tries_slots slot side refl
  repair_told (repair.Free slot side settling.Store) n none some = absurd (none-some (again (Busy word value)) some)
  repair_told (repair.Free slot side settling.Flush) n none some = absurd (none-some (again (Busy word value)) some)
  repair_told (repair.Free slot side settling.Fence) n none some = absurd (none-some (again (Busy word value)) some)
  repair_told repair.GiveSlots n none some = absurd (none-some (again (Busy word value)) some)
  repair_told (repair.Unmark settling.Store) n none some = absurd (none-some (again (Busy word value)) some)
  repair_told (repair.Unmark settling.Flush) n none some = absurd (none-some (again (Busy word value)) some)
  repair_told (repair.Unmark settling.Fence) n none some = absurd (none-some (again (Busy word value)) some)
  repair_told (repair.Give end) n none some = absurd (none-some (again (Busy word value)) (sym none ∙ some))
  repair_told (repair.Ended end) n none some = absurd (none-some (again (Busy word value)) (sym none ∙ some))

-- THE REDIRECTING tells of that of the directory
module _ (op : RedirectOp) (why : Why) where
  abbrev Directs : RedirectStep → Type 0
  Directs s = redirect_outcome_at s ≡ Some (again why)

  behind_never : (t : Bool) (index : ℕ) (o : Option Want) → Directs (if t then redirect.Entry index else settle_by o) → ⊥
  behind_never true index o some = none-some (again why) some
  behind_never false index (Some w) some = none-some (again why) some
  behind_never false index None some = none-some (again why) some

  on_never : (x : RedirectOp) (index : ℕ) → Directs (behind x index).step → ⊥
  on_never x index = behind_never (nat_lt index (last_entry x)) (index + 1) (rounds_wanted x.rounds None)

  met_never : (t : Bool) (index : ℕ) → Directs (if t then go op (redirect.Store index) else behind op index).step → ⊥
  met_never true index some = none-some (again why) some
  met_never false index some = on_never op index some

  stored_never : (t : Bool) (x : RedirectOp) (index : ℕ) → x.step ≡ redirect.Store index → Directs (stored_by t x index).step → ⊥
  stored_never true x index same some = on_never x index some
  stored_never false x index same some = none-some (again why) (ap redirect_outcome_at (sym same) ∙ some)

  settled_never : (o : Option Want) → Directs (settled_to o) → ⊥
  settled_never (Some w) some = none-some (again why) some
  settled_never None some = none-some (again why) some

  store_never : (index : ℕ) (a : Ans) → op.step ≡ redirect.Store index → Directs (redirect_next_in op (redirect.Store index) a).step → ⊥
  store_never index Passed same some =
      stored_never (rounds_stores op.rounds (Some (store_to op index))) (with_rounds op (Some (store_to op index))) index same some
  store_never index a same some = none-some (again why) some

  settle_never : (a : Ans) → Directs (redirect_next_in op redirect.Settle a).step → ⊥
  settle_never Passed some = settled_never (rounds_wanted (rounds_taken op.rounds None) None) some
  settle_never a some = none-some (again why) some

  pub redirect_told : (s : RedirectStep) (n : ℕ) → op.step ≡ s → redirect_outcome_at s ≡ None → Directs (redirect_next_in op s (answer_to (redirect_wanted_in op s) n)).step → s ≡ redirect.Guard
  redirect_told redirect.Guard n same none some = refl
  redirect_told redirect.Root n same none some = absurd (none-some (again why) some)
  redirect_told (redirect.Entry index) n same none some = absurd (none-some (again why) some)
  redirect_told (redirect.Head index slot) n same none some = absurd (met_never (nat_le (depth_in n) (depth_in op.guarded.head)) index some)
  redirect_told (redirect.Store index) n same none some = absurd (store_never index _ same some)
  redirect_told redirect.Settle n same none some = absurd (settle_never _ some)
  redirect_told redirect.Fence n same none some = absurd (none-some (again why) some)
  redirect_told redirect.GiveDirectory n same none some = absurd (none-some (again why) some)
  redirect_told (redirect.Give end) n same none some = absurd (none-some (again why) (sym none ∙ some))
  redirect_told (redirect.Ended end) n same none some = absurd (none-some (again why) (sym none ∙ some))

-- ---- in the world, for the caller with this view, which repairs a segment
module _ (site : Ground) (words : Words) (views : List View) (h : Holds site words views) (j : ℕ) (v : View) (at : At views j v) (here : Site) (call : Call) (did : Doings)
    (word value : ℕ) where
  -- of no guard it has the area, where it has none
  module _ (segment : ℕ) (within : segment < site.shape.segments) (bare : v.areas ≡ []) (taken : IsGuardTaken site.shape words did call segment word value) where
    none_held : (guard : Guard) → Has (area_of guard) v.areas → ⊥
    none_held guard has = subst (Has (area_of guard)) bare has

    bare_found : IsFoundTaken site words v word value
    bare_found = elim taken.needed [
      | inl own ↦ a_guard (of_segment segment) within own taken.taken (none_held (of_segment segment))
      | inr shared ↦ elim shared.0 [
        | inl slots ↦ a_guard of_free_slots tt slots taken.taken (none_held of_free_slots)
        | inr directory ↦ a_guard of_directory tt directory taken.taken (none_held of_directory)
      ]
    ]

  module _ (op : RepairOp) (runs : RunsHere site here op.guarded) (taken : IsGuardTaken site.shape words did call op.guarded.segment word value) where
    -- beside a side and a stale segment it has not the area of free slots
    no_slots : (slot s : ℕ) → v.areas ≡ Side slot ∷ Stale s ∷ Segment s ∷ [] → Has Allocation v.areas → ⊥
    no_slots slot s areas has = elim (subst (Has Allocation) areas has) [
      | inl side ↦ absurd (cc)
      | inr more ↦ elim more [ inl stale ↦ absurd (cc) | inr one ↦ elim one [ inl segment ↦ absurd (cc) | inr none ↦ none ] ]
    ]

    pub repair_found : (s : RepairStep) → IsTrying op word value s → RepairSuits site here call op.guarded s v → IsAbout (repair_wanted_in op s) word → IsFoundTaken site words v word value
    repair_found repair.Guard trying suits about =
        bare_found op.guarded.segment (h.structure.says j v (Lives op.guarded.segment) words at suits.1 (possible_now site words views h)).slot suits.0.areas taken
    repair_found (repair.Slots slot side) trying suits about =
        a_guard of_free_slots tt (sym about ∙ ap allocation_guard runs.shape) taken.taken (no_slots slot op.guarded.segment suits.1.areas_are)
    repair_found s (tries_segment is) suits about = absurd (cc)
    repair_found s (tries_slots slot side is) suits about = absurd (cc)

  module _ (op : RedirectOp) (taken : IsGuardTaken site.shape words did call op.guarded.segment word value) where
    -- beside a stale segment it has not that of the directory
    no_directory : (s : ℕ) → v.areas ≡ Stale s ∷ Segment s ∷ [] → Has Directory v.areas → ⊥
    no_directory s areas has = elim (subst (Has Directory) areas has) [
      | inl stale ↦ absurd (cc)
      | inr one ↦ elim one [ inl segment ↦ absurd (cc) | inr none ↦ none ]
    ]

    pub redirect_found : RedirectSuits site here call op redirect.Guard v → IsAbout (redirect_wanted_in op redirect.Guard) word → IsFoundTaken site words v word value
    redirect_found suits about =
        a_guard of_directory tt (sym about ∙ ap directory_guard suits.0.here_is.shape) taken.taken (no_directory op.guarded.segment suits.0.areas)
