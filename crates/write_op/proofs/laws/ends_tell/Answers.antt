-- By the step.
use Rattle.write_op.proofs.Ends.{ends_as_told}
use Rattle.write_op.proofs.laws.ends_tell.Goals as goal

pub returns : goal.returns
returns c = ends_as_told
