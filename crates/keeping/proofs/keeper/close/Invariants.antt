use Rattle.restart_op.specs.Closing.{left}
use Rattle.keeping.proofs.Marking.{ClosesOn}
use Rattle.keeping.proofs.keeper.close.Given as goal

abbrev pub invariant-loop-want : goal.invariant-loop-want
invariant-loop-want l = ClosesOn l.fn.device l.device l.op

abbrev pub decreases-loop-want : goal.decreases-loop-want
decreases-loop-want l = left l.op
