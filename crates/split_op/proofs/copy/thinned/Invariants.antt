-- The buckets before this one are looked at.
use Rattle.split_op.proofs.sides.Thinning.{IsThinning}
use Rattle.split_op.proofs.copy.thinned.Given as goal

abbrev pub invariant-loop-bucket : goal.invariant-loop-bucket
invariant-loop-bucket l = IsThinning l.words l.bucket l.thin
