-- By the rules that all proofs share.
use Rattle.std.proofs.Common.{rules}
use Rattle.move_op.proofs.op.MoveOp.end.Goals as goal

pub returns-in-Ended : goal.returns-in-Ended
returns-in-Ended c = search rules
