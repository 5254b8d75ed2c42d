-- By the rules that all proofs share.
use Rattle.std.proofs.Common.{rules}
use Rattle.restart_op.proofs.close.CloseOp.after.Goals as goal

pub returns-in-FlushState : goal.returns-in-FlushState
returns-in-FlushState c = search rules
