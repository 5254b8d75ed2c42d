-- At its end it tells its outcome.
use Rattle.std.proofs.Common.{◌≡◌, refl}
use Rattle.op_core.specs.declared.want.Want.TheVariants.{Done}
use Rattle.part.specs.Part.{EndsAsTold}
use Rattle.phase.specs.declared.take.Take.TheVariants as take
use Rattle.phase.specs.declared.make.Make.TheVariants.{Key, Value, Fingers, FlushFingers, FlushRecord, FenceRecord, Publish, FlushPublished, FencePublished}
use Rattle.phase.specs.declared.kept.Kept.{Kept}
use Rattle.stash_op.specs.declared.step.Seen.{Seen}
use Rattle.phase.specs.declared.note.NoteWord.TheVariants as note
use Rattle.phase.specs.declared.ending.Ending.TheVariants as ending
use Rattle.stash_op.specs.declared.step.StashStep.{StashStep}
use Rattle.stash_op.specs.declared.step.StashStep.TheVariants.{Lock, Fill, Note, Draw, CountSpent, Give, Ended}
use Rattle.stash_op.specs.declared.step.StashStep.TheVariants as step
use Rattle.stash_op.specs.Steps.{wanted_in, end_at}
use Rattle.stash_op.specs.Fits.{outcome_of, outcome_at}
use Rattle.stash_op.specs.StashPart.{stash_part}

ends_at : (kept : Kept) (seen : Seen) (at : StashStep) → wanted_in kept seen at ≡ Done → outcome_at at ≡ outcome_of (end_at at)
ends_at kept seen (Ended end) done = refl
ends_at kept seen (Give held (ending.Replied answer place)) done = refl
ends_at kept seen (Give held (ending.Again why)) done = refl
ends_at kept seen (Lock bucket take.Look) done = absurd (let no = done in cc)
ends_at kept seen (Lock bucket (take.Try free)) done = absurd (let no = done in cc)
ends_at kept seen (Fill bucket load) done = absurd (let no = done in cc)
ends_at kept seen (step.Make Key) done = absurd (let no = done in cc)
ends_at kept seen (step.Make Value) done = absurd (let no = done in cc)
ends_at kept seen (step.Make Fingers) done = absurd (let no = done in cc)
ends_at kept seen (step.Make FlushFingers) done = absurd (let no = done in cc)
ends_at kept seen (step.Make FlushRecord) done = absurd (let no = done in cc)
ends_at kept seen (step.Make FenceRecord) done = absurd (let no = done in cc)
ends_at kept seen (step.Make Publish) done = absurd (let no = done in cc)
ends_at kept seen (step.Make FlushPublished) done = absurd (let no = done in cc)
ends_at kept seen (step.Make FencePublished) done = absurd (let no = done in cc)
ends_at kept seen (Note note.Mark) done = absurd (let no = done in cc)
ends_at kept seen (Note note.Fingers) done = absurd (let no = done in cc)
ends_at kept seen Draw done = absurd (let no = done in cc)
ends_at kept seen CountSpent done = absurd (let no = done in cc)

pub ends_as_told : EndsAsTold stash_part (λ op. outcome_of (end_at op.stage.step))
ends_as_told op done = ends_at op.kept op.stage.seen op.stage.step done
