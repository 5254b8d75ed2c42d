use Rattle.restart_op.specs.Budget.{left}
use Rattle.keeping.proofs.Reopened.{RestartsOn}
use Rattle.keeping.proofs.keeper.restart.Given as goal

abbrev pub invariant-loop-op : goal.invariant-loop-op
invariant-loop-op g l = RestartsOn l.fn.device l.device l.fn.steps l.steps l.op

abbrev pub decreases-loop-op : goal.decreases-loop-op
decreases-loop-op g l = left l.op
