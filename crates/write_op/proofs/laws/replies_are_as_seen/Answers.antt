-- By the step.
use Rattle.write_op.proofs.causing.Telling.{replies_as_seen}
use Rattle.write_op.proofs.laws.replies_are_as_seen.Goals as goal

pub returns : goal.returns
returns c = replies_as_seen
