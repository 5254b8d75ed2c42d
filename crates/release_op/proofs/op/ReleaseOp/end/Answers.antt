-- By the rules that all proofs share.
use Rattle.std.proofs.Common.{rules}
use Rattle.release_op.proofs.op.ReleaseOp.end.Goals as goal

pub returns-in-Give : goal.returns-in-Give
returns-in-Give c = search rules
