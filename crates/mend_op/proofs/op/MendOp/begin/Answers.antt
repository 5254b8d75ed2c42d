-- By the rules that all proofs share.
use Rattle.std.proofs.Common.{rules}
use Rattle.mend_op.proofs.op.MendOp.begin.Goals as goal

pub returns : goal.returns
returns c = search rules
