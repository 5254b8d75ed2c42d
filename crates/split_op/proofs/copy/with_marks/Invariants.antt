-- The metadata of the buckets before this one is put.
use Rattle.split_op.proofs.sides.Copying.{IsMarking}
use Rattle.split_op.proofs.copy.with_marks.Given as goal

abbrev pub invariant-loop-bucket : goal.invariant-loop-bucket
invariant-loop-bucket l = IsMarking l.kept l.half l.notes l.bucket l.words
