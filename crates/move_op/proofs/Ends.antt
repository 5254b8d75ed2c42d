-- At its end a displacement tells its outcome.
use Rattle.std.proofs.Common.{◌≡◌, refl}
use Rattle.op_core.specs.declared.want.Want.TheVariants.{Done}
use Rattle.part.specs.Part.{EndsAsTold}
use Rattle.phase.specs.declared.kept.Kept.{Kept}
use Rattle.phase.specs.declared.ending.Ending.TheVariants as ending
use Rattle.phase.proofs.Wanting.{no}
use Rattle.move_op.specs.declared.step.MoveStep.{MoveStep}
use Rattle.move_op.specs.declared.step.MoveStep.TheVariants.{Give, Ended}
use Rattle.move_op.specs.Steps.{wanted_in, end_at}
use Rattle.move_op.specs.Fits.{outcome_of, outcome_at}
use Rattle.move_op.specs.MovePart.{move_part}
use Rattle.move_op.proofs.Over.{over_done}

ends_at : (kept : Kept) (at : MoveStep) → wanted_in kept at ≡ Done → outcome_at at ≡ outcome_of (end_at at)
ends_at kept (Ended end) done = refl
ends_at kept (Give held (ending.Replied answer place)) done = refl
ends_at kept (Give held (ending.Again why)) done = refl
ends_at kept at done = absurd (no ((over_done kept at).1 done))

pub move_ends_as_told : EndsAsTold move_part (λ op. outcome_of (end_at op.step))
move_ends_as_told op done = ends_at op.kept op.step done
