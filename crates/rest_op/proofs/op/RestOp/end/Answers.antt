-- By the rules that all proofs share.
use Rattle.std.proofs.Common.{rules}
use Rattle.rest_op.proofs.op.RestOp.end.Goals as goal

pub returns-in-Ended : goal.returns-in-Ended
returns-in-Ended c = search rules
