-- By the rules that all proofs share.
use Rattle.std.proofs.Common.{rules}
use Rattle.mend_op.proofs.op.MendOp.filled.Goals as goal

pub returns-then-is_some : goal.returns-then-is_some
returns-then-is_some c = search rules
