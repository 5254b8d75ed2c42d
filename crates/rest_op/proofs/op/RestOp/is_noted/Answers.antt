-- By the rules that all proofs share.
use Rattle.std.proofs.Common.{rules}
use Rattle.rest_op.proofs.op.RestOp.is_noted.Goals as goal

pub returns : goal.returns
returns c = search rules
