-- At its end a change tells its outcome.
use Rattle.std.proofs.Common.{◌≡◌, refl}
use Rattle.op_core.specs.declared.want.Want.TheVariants.{Done}
use Rattle.part.specs.Part.{EndsAsTold}
use Rattle.phase.specs.declared.walk.Walk.TheVariants as walk
use Rattle.phase.specs.declared.take.Take.TheVariants as take
use Rattle.phase.specs.declared.make.Make.TheVariants.{Key, Value, Fingers, FlushFingers, FlushRecord, FenceRecord, Publish, FlushPublished, FencePublished}
use Rattle.write_op.specs.declared.step.Task.{Task}
use Rattle.write_op.specs.declared.step.Seen.{Seen}
use Rattle.phase.specs.declared.note.NoteWord.TheVariants as note
use Rattle.phase.specs.declared.ending.Ending.TheVariants as ending
use Rattle.write_op.specs.declared.step.WriteStep.{WriteStep}
use Rattle.write_op.specs.declared.step.WriteStep.TheVariants.{Way, Lock, Check, Fill, Count, Draw, Unnote, CountSpent, Give, Ended}
use Rattle.write_op.specs.declared.step.WriteStep.TheVariants as step
use Rattle.write_op.specs.Steps.{wanted_in, end_at}
use Rattle.write_op.specs.Fits.{outcome_of, outcome_at}
use Rattle.write_op.specs.ChangePart.{change_part}

ends_at : (task : Task) (seen : Seen) (at : WriteStep) → wanted_in task seen at ≡ Done → outcome_at at ≡ outcome_of (end_at at)
ends_at task seen (Ended end) done = refl
ends_at task seen (Give held (ending.Replied answer place)) done = refl
ends_at task seen (Give held (ending.Again why)) done = refl
ends_at task seen (Way walk.Power) done = absurd (let no = done in cc)
ends_at task seen (Way walk.Root) done = absurd (let no = done in cc)
ends_at task seen (Way (walk.Entry root)) done = absurd (let no = done in cc)
ends_at task seen (Way (walk.Head root segment)) done = absurd (let no = done in cc)
ends_at task seen (Lock place take.Look) done = absurd (let no = done in cc)
ends_at task seen (Lock place (take.Try free)) done = absurd (let no = done in cc)
ends_at task seen (Check back) done = absurd (let no = done in cc)
ends_at task seen (Fill place load) done = absurd (let no = done in cc)
ends_at task seen Count done = absurd (let no = done in cc)
ends_at task seen (step.Make Key) done = absurd (let no = done in cc)
ends_at task seen (step.Make Value) done = absurd (let no = done in cc)
ends_at task seen (step.Make Fingers) done = absurd (let no = done in cc)
ends_at task seen (step.Make FlushFingers) done = absurd (let no = done in cc)
ends_at task seen (step.Make FlushRecord) done = absurd (let no = done in cc)
ends_at task seen (step.Make FenceRecord) done = absurd (let no = done in cc)
ends_at task seen (step.Make Publish) done = absurd (let no = done in cc)
ends_at task seen (step.Make FlushPublished) done = absurd (let no = done in cc)
ends_at task seen (step.Make FencePublished) done = absurd (let no = done in cc)
ends_at task seen Draw done = absurd (let no = done in cc)
ends_at task seen (Unnote note.Mark place) done = absurd (let no = done in cc)
ends_at task seen (Unnote note.Fingers place) done = absurd (let no = done in cc)
ends_at task seen CountSpent done = absurd (let no = done in cc)

pub ends_as_told : EndsAsTold change_part (λ op. outcome_of (end_at op.stage.step))
ends_as_told op done = ends_at op.task op.stage.seen op.stage.step done
