use Rattle.restart_op.specs.Budget.{left}
use Rattle.shared_image.proofs.Restarting.{RestartsAt}
use Rattle.shared_image.proofs.power.restart.Given as goal

abbrev pub invariant-loop-op : goal.invariant-loop-op
invariant-loop-op l = RestartsAt l.fn.medium.geometry l.fn.medium.words l.words.items l.op

abbrev pub decreases-loop-op : goal.decreases-loop-op
decreases-loop-op l = left l.op
