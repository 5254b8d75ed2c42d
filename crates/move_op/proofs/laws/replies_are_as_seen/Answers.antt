-- By the step.
use Rattle.move_op.proofs.Replying.{move_replies_as_seen}
use Rattle.move_op.proofs.laws.replies_are_as_seen.Goals as goal

pub returns : goal.returns
returns c = move_replies_as_seen
