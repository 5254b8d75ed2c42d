-- By the rules that all proofs share.
use Rattle.std.proofs.Common.{rules}
use Rattle.release_op.proofs.op.ReleaseOp.wants_nothing.Goals as goal

pub returns : goal.returns
returns c = search rules
