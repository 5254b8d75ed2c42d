-- By the view in each step.
use Rattle.move_op.proofs.Replying.{moves_in_order as in_order}
use Rattle.move_op.proofs.laws.moves_in_order.Goals as goal

pub returns : goal.returns
returns c = in_order
