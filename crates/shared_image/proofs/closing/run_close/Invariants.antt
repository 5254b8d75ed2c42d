use Rattle.restart_op.specs.Closing.{left}
use Rattle.shared_image.proofs.ClosesOn.{ClosesAt}
use Rattle.shared_image.proofs.closing.run_close.Given as goal

abbrev pub invariant-loop-want : goal.invariant-loop-want
invariant-loop-want l = ClosesAt l.fn.geometry l.fn.words.items l.words.items l.op

abbrev pub decreases-loop-want : goal.decreases-loop-want
decreases-loop-want l = left l.op
