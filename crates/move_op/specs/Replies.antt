-- By what a displacement is answered, in any state.
use Rattle.std.specs.Prelude.{◌≡◌, ℕ, None, Some}
use Rattle.image_layout.specs.Volatile.{counter_word}
use Rattle.op_core.specs.declared.want.Want.TheVariants.{Load}
use Rattle.op_core.specs.declared.want.Ans.{Ans}
use Rattle.op_core.specs.declared.want.Ans.TheVariants.{Value, Drawn}
use Rattle.map_model.specs.declared.entry.Reply.{Reply}
use Rattle.map_model.specs.declared.entry.Reply.TheVariants.{Done, Spent}
use Rattle.part.specs.Outcomes.{replied}
use Rattle.phase.specs.declared.kept.Kept.{Kept}
use Rattle.move_op.specs.declared.step.Shift.{Shift}
use Rattle.move_op.specs.declared.step.MoveStep.{MoveStep}
use Rattle.move_op.specs.declared.step.MoveStep.TheVariants.{Draw}
use Rattle.move_op.specs.declared.op.MoveOp.{MoveOp}
use Rattle.move_op.specs.Steps.{wanted_in, taken}
use Rattle.move_op.specs.Fits.{outcome_at}

-- BY WHAT IT IS ANSWERED, with this place, where the event of a step is answered so: that a lock is spent by the load of the commit
-- counter, with its value; that the insert is done by its draw, with the place that it drew; and nothing else
module _ (kept : Kept) (at : MoveStep) (a : Ans) where
  abbrev pub Tells : Reply → ℕ → Type 0
  Tells Spent place = (wanted_in kept at ≡ Load (counter_word kept.site.geometry)) × (a ≡ Value place)
  Tells Done place = (shift : Shift) × (at ≡ Draw shift) × (a ≡ Drawn place)
  Tells other place = ⊥

-- EACH REPLY IS TOLD AS IT WAS SEEN, by the event that decides it
abbrev pub MoveRepliesAsSeen : Type 0
MoveRepliesAsSeen = (op : MoveOp) (a : Ans) → outcome_at op.step ≡ None → (answer : Reply) (place : ℕ) → outcome_at (taken op a).step ≡ Some (replied answer place)
    → Tells op.kept op.step a answer place
