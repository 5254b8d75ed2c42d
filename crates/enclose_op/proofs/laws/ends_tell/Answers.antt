-- By the steps.
use Rattle.enclose_op.proofs.EncloseIsPart.{ends_as_told}
use Rattle.enclose_op.proofs.laws.ends_tell.Goals as goal

pub returns : goal.returns
returns c = ends_as_told
