-- The machines of a split, and the beginning of a repair, stay in their image: what an answer makes of one is of the same site.
use Rattle.std.proofs.Common.{◌≡◌, ℕ, Bool, true, false, refl}
use Rattle.std.specs.Prelude.{◌==◌, nat_lt, if◌then◌else◌}
use Rattle.segment_head.specs.HeadWord.{state_in, depth_in, pattern_in, free}
use Rattle.op_core.specs.declared.want.Ans.{Ans}
use Rattle.op_core.specs.declared.want.Ans.TheVariants.{Value, Won, Lost, Passed}
use Rattle.phase.specs.declared.take.Taken.{Taken}
use Rattle.phase.specs.declared.take.Taken.TheVariants as taking
use Rattle.phase.specs.Takes.{take_taken}
use Rattle.enclose_op.specs.declared.enclosed.Enclosed.{Enclosed}
use Rattle.enclose_op.specs.declared.op.EncloseStep.{EncloseStep}
use Rattle.enclose_op.specs.declared.op.EncloseStep.TheVariants as enclose
use Rattle.enclose_op.specs.Steps.{locked_to}
use Rattle.enclose_op.specs.Steps.{next_in as enclose_next}
use Rattle.split_op.specs.declared.op.SplitOp.{SplitOp}
use Rattle.split_op.specs.declared.step.SplitStep.{SplitStep}
use Rattle.split_op.specs.declared.step.SplitStep.TheVariants as split
use Rattle.split_op.specs.Steps.{last_slot, searched}
use Rattle.split_op.specs.Steps.{next_in as split_next}
use Rattle.world.specs.areas.Kinds.{is_new_side, is_ready_side}
use Rattle.repair_op.specs.declared.step.Settling.TheVariants as settling
use Rattle.repair_op.specs.declared.step.RepairStep.{RepairStep}
use Rattle.repair_op.specs.declared.step.RepairStep.TheVariants as repair
use Rattle.repair_op.specs.declared.op.RepairOp.{RepairOp}
use Rattle.repair_op.specs.Steps.{met_side, next_in as repair_next}

-- ---- while a segment is enclosed
locked_site : (e : Enclosed) (b : ℕ) (taken : Taken) → (locked_to e b taken).enclosed.site ≡ e.site
locked_site e b (taking.On take) = refl
locked_site e b (taking.Held lock) = refl
locked_site e b (taking.Busy seen) = refl
locked_site e b (taking.Moved before after) = refl
locked_site e b taking.Spent = refl

pub enclosed_site : (e : Enclosed) (step : EncloseStep) (a : Ans) → (enclose_next e step a).enclosed.site ≡ e.site
enclosed_site e enclose.Guard Won = refl
enclosed_site e enclose.Guard (Lost seen) = refl
enclosed_site e enclose.Guard a = refl
enclosed_site e (enclose.Lock b take) a = locked_site e b (take_taken take a)
enclosed_site e enclose.Head (Value head) = refl
enclosed_site e enclose.Head a = refl
enclosed_site e (enclose.Fill at) (Value seen) = refl
enclosed_site e (enclose.Fill at) a = refl
enclosed_site e (enclose.CountSpent b) (Value place) = refl
enclosed_site e (enclose.CountSpent b) a = refl
enclosed_site e enclose.CountDeep (Value place) = refl
enclosed_site e enclose.CountDeep a = refl
enclosed_site e (enclose.Give give end) Passed = refl
enclosed_site e (enclose.Give give end) a = refl
enclosed_site e (enclose.Ended end) a = refl
enclosed_site e enclose.Whole a = refl

-- ---- while its side is made
module _ (op : SplitOp) where
  -- where a slot is free it is the side, and else the next one is looked at, or none is
  by_head : (free more : Bool) (x y z : SplitOp) → x.copied.whole ≡ op.copied.whole → y.copied.whole ≡ op.copied.whole → z.copied.whole ≡ op.copied.whole
      → (if free then x else if more then y else z).copied.whole ≡ op.copied.whole
  by_head true more x y z first second third = first
  by_head false true x y z first second third = second
  by_head false false x y z first second third = third

  searched_whole : (slot head : ℕ) → (searched op slot head).copied.whole ≡ op.copied.whole
  searched_whole slot head = by_head (state_in head == free) (nat_lt slot (last_slot op.copied.whole.site.geometry)) _ _ _ refl refl refl

  pub made_whole : (step : SplitStep) (a : Ans) → (split_next op step a).copied.whole ≡ op.copied.whole
  made_whole split.Take Won = refl
  made_whole split.Take (Lost seen) = refl
  made_whole split.Take a = refl
  made_whole (split.Search slot) (Value head) = searched_whole slot head
  made_whole (split.Search slot) a = refl
  made_whole split.Count (Value count) = refl
  made_whole split.Count a = refl
  made_whole (split.Return count) Passed = refl
  made_whole (split.Return count) a = refl
  made_whole (split.Look b) (Value lock) = refl
  made_whole (split.Look b) a = refl
  made_whole (split.Put batch rounds) Passed = refl
  made_whole (split.Put batch rounds) a = refl
  made_whole split.Release Passed = refl
  made_whole split.Release a = refl
  made_whole (split.Back give end) Passed = refl
  made_whole (split.Back give end) a = refl
  made_whole (split.Ended end) a = refl

-- ---- while a stale segment is guarded
module _ (op : RepairOp) where
  -- whichever it is
  by_side : (ready new : Bool) (x y z : RepairOp) → x.guarded.site ≡ op.guarded.site → y.guarded.site ≡ op.guarded.site → z.guarded.site ≡ op.guarded.site
      → (if ready then x else if new then y else z).guarded.site ≡ op.guarded.site
  by_side true new x y z first second third = first
  by_side false true x y z first second third = second
  by_side false false x y z first second third = third

  met_site : (slot side : ℕ) → (met_side op slot side).guarded.site ≡ op.guarded.site
  met_site slot side = by_side (is_ready_side (depth_in op.guarded.head) (pattern_in op.guarded.head) side) (is_new_side (depth_in op.guarded.head) (pattern_in op.guarded.head) side) _ _ _ refl refl refl

  pub guarded_site : (step : RepairStep) (a : Ans) → (repair_next op step a).guarded.site ≡ op.guarded.site
  guarded_site repair.Guard Won = refl
  guarded_site repair.Guard (Lost seen) = refl
  guarded_site repair.Guard a = refl
  guarded_site repair.Head (Value head) = refl
  guarded_site repair.Head a = refl
  guarded_site repair.Link (Value link) = refl
  guarded_site repair.Link a = refl
  guarded_site (repair.Side slot) (Value side) = met_site slot side
  guarded_site (repair.Side slot) a = refl
  guarded_site (repair.Slots slot side) Won = refl
  guarded_site (repair.Slots slot side) (Lost seen) = refl
  guarded_site (repair.Slots slot side) a = refl
  guarded_site (repair.Free slot side settling) Passed = refl
  guarded_site (repair.Free slot side settling) a = refl
  guarded_site repair.GiveSlots Passed = refl
  guarded_site repair.GiveSlots a = refl
  guarded_site (repair.Unmark settling.Store) Passed = refl
  guarded_site (repair.Unmark settling.Flush) Passed = refl
  guarded_site (repair.Unmark settling.Fence) Passed = refl
  guarded_site (repair.Unmark settling) a = refl
  guarded_site (repair.Give end) Passed = refl
  guarded_site (repair.Give end) a = refl
  guarded_site (repair.Ended end) a = refl
