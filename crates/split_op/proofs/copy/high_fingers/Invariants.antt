-- The slots before this one are looked at.
use Rattle.std.proofs.Common.{◌≡◌, ◌-◌}
use Rattle.split_op.specs.Sides.{without_free}
use Rattle.split_op.proofs.copy.high_fingers.Given as goal

abbrev pub invariant-loop-slot : goal.invariant-loop-slot
invariant-loop-slot l = l.thin ≡ without_free l.mark l.word 8 (l.slot - 8)
