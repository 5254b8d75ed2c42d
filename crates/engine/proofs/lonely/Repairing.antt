-- How far a repair has come, from one step of its machines to the next: whether it is behind the store that frees a slot, and behind the one by which its
-- segment gets the image's version; and which steps tell that it has done its work.
use Rattle.std.proofs.Common.{◌≡◌, ◌≢◌, ℕ, zero, suc, ◌+◌, ◌⊎◌, inl, inr, Bool, true, false, Option, None, Some, refl, sym, ◌∙◌}
use Rattle.std.specs.Prelude.{◌==◌, ◌*◌, nat_lt, if◌then◌else◌}
use Rattle.std.proofs.lemmas.Bool.{eqb-true}
use Rattle.std.proofs.lemmas.Option.{none-some, same_Some}
use Rattle.op_core.specs.declared.want.Want.{Want}
use Rattle.op_core.specs.declared.want.Ans.{Ans}
use Rattle.op_core.specs.declared.want.Ans.TheVariants.{Value, Won, Lost, Passed}
use Rattle.op_core.specs.declared.why.Why.TheVariants.{Busy}
use Rattle.segment_head.specs.HeadWord.{version_in, state_in, depth_in, pattern_in, splitting}
use Rattle.image_layout.specs.Places.{homes, last_of_buckets}
use Rattle.image_layout.specs.Volatile.{allocation_guard}
use Rattle.world.specs.Wants.{answer_to}
use Rattle.world.specs.areas.Kinds.{is_new_side, is_ready_side}
use Rattle.part.specs.Outcomes.{again, finished}
use Rattle.rounds.specs.declared.rounds.Rounds.{Rounds}
use Rattle.rounds.specs.Steps.{rounds_stores, rounds_wanted, rounds_taken}
use Rattle.rounds.specs.Steps as rounds
use Rattle.repair_op.specs.declared.op.RepairOp.{RepairOp}
use Rattle.repair_op.specs.declared.step.RepairEnd.TheVariants as repair_ends
use Rattle.repair_op.specs.declared.step.Settling.TheVariants as settling
use Rattle.repair_op.specs.declared.step.RepairStep.{RepairStep}
use Rattle.repair_op.specs.declared.step.RepairStep.TheVariants as repair
use Rattle.repair_op.specs.Guarded.{guard_of}
use Rattle.repair_op.specs.Steps.{is_guarded, guarded_as, with_side, go, wanted_in as repair_wanted_in, next_in as repair_next_in}
use Rattle.repair_op.specs.RepairPart.{outcome_at as repair_outcome_at}
use Rattle.redirect_op.specs.declared.step.RedirectEnd.{RedirectEnd}
use Rattle.redirect_op.specs.declared.step.RedirectEnd.TheVariants as redirect_ends
use Rattle.redirect_op.specs.declared.step.RedirectStep.{RedirectStep}
use Rattle.redirect_op.specs.declared.step.RedirectStep.TheVariants as redirect
use Rattle.redirect_op.specs.Ends.{outcome_of as redirect_outcome_of, outcome_at as redirect_outcome_at}
use Rattle.mend_op.specs.declared.stage.Stage.{Stage}
use Rattle.mend_op.specs.declared.stage.Stage.TheVariants as stage
use Rattle.mend_op.specs.declared.op.MendOp.{MendOp}
use Rattle.mend_op.specs.declared.op.MendStep.{MendStep}
use Rattle.mend_op.specs.declared.op.MendStep.TheVariants as mend
use Rattle.mend_op.specs.Stages.{place}
use Rattle.mend_op.specs.Steps.{at_step, due, changed_from, prepared, with_word, with_stored, noted_from, over, rounding_by, rounding, begin, rounded_by, loaded_by, wanted_in as mend_wanted_in, next_in as mend_next_in}
use Rattle.mend_op.specs.MendPart.{outcome_at as mend_outcome_at}
use Rattle.engine.specs.Left.{has_freed, is_renewed}

-- ---- THE BEGINNING OF A REPAIR
module _ (op : RepairOp) where
  -- the step behind the event that finds this value
  abbrev repair_next : RepairStep → ℕ → RepairStep
  repair_next s n = (repair_next_in op s (answer_to (repair_wanted_in op s) n)).step

  -- behind the load of a side nothing is decided
  pub side_none : (slot n : ℕ) (ready new : Bool)
      → repair_outcome_at (if ready then guarded_as (with_side op.guarded slot) else if new then go op (repair.Slots slot n) else go op (repair.Unmark settling.Store)).step ≡ None
  side_none slot n true new = refl
  side_none slot n false true = refl
  side_none slot n false false = refl

  pub link_none : (n : ℕ) → repair_outcome_at (repair_next repair.Link n) ≡ None
  link_none zero = refl
  link_none (suc slot) = refl

  guard_never : (t : Bool) (n : ℕ) → repair_outcome_at (repair_next_in op repair.Guard (if t then Won else Lost n)).step ≡ Some finished → ⊥
  guard_never true n some = none-some finished some
  guard_never false n some = absurd (let same = same_Some (again (Busy (guard_of op.guarded) n)) finished some in cc)

  slots_never : (slot side : ℕ) (t : Bool) (n : ℕ) → repair_outcome_at (repair_next_in op (repair.Slots slot side) (if t then Won else Lost n)).step ≡ Some finished → ⊥
  slots_never slot side true n some = none-some finished some
  slots_never slot side false n some = absurd (let same = same_Some (again (Busy (allocation_guard op.guarded.site.geometry) n)) finished some in cc)

  -- IT TELLS THAT ITS SEGMENT IS CURRENT where it loads the header so
  by_version : (n : ℕ) (t u : Bool) → (version_in n == op.guarded.site.version) ≡ t
      → repair_outcome_at (if t then repair.Give repair_ends.Current else if u then repair.Link else repair.Ended repair_ends.Guarded) ≡ Some finished → version_in n ≡ op.guarded.site.version
  by_version n true u is some = eqb-true (version_in n) op.guarded.site.version is
  by_version n false true is some = absurd (none-some finished some)
  by_version n false false is some = absurd (none-some finished some)

  abbrev IsCurrentHead : RepairStep → ℕ → Type 0
  IsCurrentHead s n = (s ≡ repair.Head) × (version_in n ≡ op.guarded.site.version)

  pub finds_current : (s : RepairStep) (n : ℕ) → repair_outcome_at s ≡ None → repair_outcome_at (repair_next s n) ≡ Some finished → IsCurrentHead s n
  finds_current repair.Guard n none some = absurd (guard_never (n == 0) n some)
  finds_current repair.Head n none some = (refl, by_version n (version_in n == op.guarded.site.version) (state_in n == splitting) refl some)
  finds_current repair.Link n none some = absurd (none-some finished (sym (link_none n) ∙ some))
  finds_current (repair.Side slot) n none some =
      absurd (none-some finished (sym (side_none slot n (is_ready_side (depth_in op.guarded.head) (pattern_in op.guarded.head) n) (is_new_side (depth_in op.guarded.head) (pattern_in op.guarded.head) n)) ∙ some))
  finds_current (repair.Slots slot side) n none some = absurd (slots_never slot side (n == 0) n some)
  finds_current (repair.Free slot side settling.Store) n none some = absurd (none-some finished some)
  finds_current (repair.Free slot side settling.Flush) n none some = absurd (none-some finished some)
  finds_current (repair.Free slot side settling.Fence) n none some = absurd (none-some finished some)
  finds_current repair.GiveSlots n none some = absurd (none-some finished some)
  finds_current (repair.Unmark settling.Store) n none some = absurd (none-some finished some)
  finds_current (repair.Unmark settling.Flush) n none some = absurd (none-some finished some)
  finds_current (repair.Unmark settling.Fence) n none some = absurd (none-some finished some)
  finds_current (repair.Give end) n none some = absurd (none-some finished (sym none ∙ some))
  finds_current (repair.Ended end) n none some = absurd (none-some finished (sym none ∙ some))

  -- ONCE IT IS BEHIND THE STORE THAT FREES a slot it stays so, until it hands on
  pub freed_stays : (s : RepairStep) (n : ℕ) → has_freed s ≡ true → (is_guarded (repair_next s n) ≡ true) ⊎ (has_freed (repair_next s n) ≡ true)
  freed_stays (repair.Free slot side settling.Flush) n freed = inr refl
  freed_stays (repair.Free slot side settling.Fence) n freed = inr refl
  freed_stays repair.GiveSlots n freed = inr refl
  freed_stays (repair.Unmark settling.Store) n freed = inr refl
  freed_stays (repair.Unmark settling.Flush) n freed = inr refl
  freed_stays (repair.Unmark settling.Fence) n freed = inl refl
  freed_stays s n freed = absurd (cc)

-- ---- THE REDIRECTING never tells that the repair has done its work
again_never : (end : RedirectEnd) → redirect_outcome_of end ≡ Some finished → ⊥
again_never (redirect_ends.Again why) some = absurd (let same = same_Some (again why) finished some in cc)
again_never redirect_ends.Guarded some = none-some finished some

pub redirect_never : (s : RedirectStep) → redirect_outcome_at s ≡ Some finished → ⊥
redirect_never (redirect.Give end) some = again_never end some
redirect_never (redirect.Ended end) some = again_never end some
redirect_never s some = none-some finished some

-- ---- A MENDING
abbrev IsNotRenewed : MendOp → Type 0
IsNotRenewed op = is_renewed op.step ≡ false

noting_not : (op : MendOp) (n : ℕ) (t : Bool) → IsNotRenewed (at_step op (if t then mend.Note n else mend.Renew))
noting_not op n true = refl
noting_not op n false = refl

noted_from_not : (op : MendOp) (n : ℕ) → IsNotRenewed (noted_from op n)
noted_from_not op n = noting_not op (changed_from op stage.Note n) (nat_lt (changed_from op stage.Note n) (2 * homes))

over_not : (s : Stage) (op : MendOp) → IsNotRenewed (over s op)
over_not stage.Clear op = refl
over_not stage.Mend op = noted_from_not (prepared stage.Note op) 0
over_not stage.Note op = refl

rounding_by_not : (o : Option Want) (s : Stage) (n : ℕ) (r : Rounds) (op : MendOp) → IsNotRenewed (rounding_by o s n r op)
rounding_by_not (Some want) s n r op = refl
rounding_by_not None s n r op = over_not s op

rounding_not : (s : Stage) (n : ℕ) (r : Rounds) (op : MendOp) → IsNotRenewed (rounding s n r op)
rounding_not s n r op = rounding_by_not (rounds_wanted r (due op s n)) s n r op

begin_not : (s : Stage) (op : MendOp) → IsNotRenewed (begin s op)
begin_not s op = rounding_not s (changed_from (prepared s op) s 0) rounds.begun (prepared s op)

rounded_by_not : (t : Bool) (s : Stage) (n : ℕ) (r : Rounds) (op : MendOp) → IsNotRenewed (rounded_by t s n r op)
rounded_by_not true s n r op = rounding_not s (changed_from (with_stored op (place s n)) s (n + 1)) r (with_stored op (place s n))
rounded_by_not false s n r op = rounding_not s n r op

loaded_by_not : (side : Option ℕ) (op : MendOp) → IsNotRenewed (loaded_by side op)
loaded_by_not (Some side) op = begin_not stage.Clear op
loaded_by_not None op = begin_not stage.Mend op

filled_not : (t : Bool) (i : ℕ) (op : MendOp) → IsNotRenewed (if t then at_step op (mend.Fill (i + 1)) else loaded_by op.guarded.side op)
filled_not true i op = refl
filled_not false i op = loaded_by_not op.guarded.side op

noted_not : (t : Bool) (n : ℕ) (op : MendOp) → IsNotRenewed (if t then noted_from (with_stored op (place stage.Note n)) (n + 1) else at_step op mend.Renew)
noted_not true n op = noted_from_not (with_stored op (place stage.Note n)) (n + 1)
noted_not false n op = refl

module _ (op : MendOp) where
  -- BUT FOR ONE EVENT it is as far with the version behind it as before
  pub renewed_same : (s : MendStep) (a : Ans) → s ≢ mend.Renew → is_renewed (mend_next_in op s a).step ≡ is_renewed s
  renewed_same (mend.Fill i) (Value seen) other = filled_not (nat_lt i last_of_buckets) i (with_word op i seen)
  renewed_same (mend.Fill i) a other = refl
  renewed_same (mend.Round s n r) Passed other = rounded_by_not (rounds_stores r (due op s n)) s n (rounds_taken r (due op s n)) op
  renewed_same (mend.Round s n r) a other = refl
  renewed_same mend.Finish Passed other = refl
  renewed_same mend.Finish a other = refl
  renewed_same mend.FinishFlush Passed other = refl
  renewed_same mend.FinishFlush a other = refl
  renewed_same mend.FinishFence Passed other = begin_not stage.Mend op
  renewed_same mend.FinishFence a other = refl
  renewed_same (mend.Note n) Passed other = noted_not (nat_lt n (2 * homes)) n op
  renewed_same (mend.Note n) a other = refl
  renewed_same mend.Renew a other = absurd (other refl)
  renewed_same mend.RenewFlush Passed other = refl
  renewed_same mend.RenewFlush a other = refl
  renewed_same mend.RenewFence Passed other = refl
  renewed_same mend.RenewFence a other = refl
  renewed_same mend.Give Passed other = refl
  renewed_same mend.Give a other = refl
  renewed_same mend.Ended a other = refl

  -- THE STORE of the header renews it
  pub renew_renews : (n : ℕ) → (s : MendStep) → s ≡ mend.Renew → is_renewed (mend_next_in op s (answer_to (mend_wanted_in op s) n)).step ≡ true
  renew_renews n mend.Renew is = refl
  renew_renews n s is = absurd (cc)

-- it has done its work once it ended, so it is behind that store
pub ended_renewed : (s : MendStep) → mend_outcome_at s ≡ Some finished → is_renewed s ≡ true
ended_renewed mend.Ended some = refl
ended_renewed s some = absurd (none-some finished some)
