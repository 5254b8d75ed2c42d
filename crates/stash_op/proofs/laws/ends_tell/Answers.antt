-- By the steps.
use Rattle.stash_op.proofs.Ends.{ends_as_told}
use Rattle.stash_op.proofs.laws.ends_tell.Goals as goal

pub returns : goal.returns
returns c = ends_as_told
