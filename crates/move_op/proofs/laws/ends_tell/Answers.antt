-- By the steps of a displacement.
use Rattle.move_op.proofs.Ends.{move_ends_as_told}
use Rattle.move_op.proofs.laws.ends_tell.Goals as goal

pub returns : goal.returns
returns c = move_ends_as_told
