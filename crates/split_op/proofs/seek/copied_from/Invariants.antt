-- None of the words before this one is copied.
use Rattle.std.proofs.Common.{◌≡◌}
use Rattle.split_op.specs.Batches.{copied_from}
use Rattle.split_op.proofs.seek.copied_from.Given as goal

abbrev pub invariant-loop-number : goal.invariant-loop-number
invariant-loop-number l = copied_from l.words l.from ≡ copied_from l.words l.number
