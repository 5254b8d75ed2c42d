-- By the step.
use Rattle.stash_op.proofs.Replying.{replies_as_seen}
use Rattle.stash_op.proofs.laws.replies_are_as_seen.Goals as goal

pub returns : goal.returns
returns c = replies_as_seen
