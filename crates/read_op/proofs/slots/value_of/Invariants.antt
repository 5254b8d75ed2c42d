use Rattle.std.proofs.Common.{◌≡◌}
use Rattle.read_op.proofs.steps.LastTaken.{below}
use Rattle.read_op.proofs.slots.value_of.Given as goal

-- what was found is what the key has in the slots that were looked at
abbrev pub invariant-loop-slot : goal.invariant-loop-slot
invariant-loop-slot l = l.found ≡ below l.words l.key l.slot
