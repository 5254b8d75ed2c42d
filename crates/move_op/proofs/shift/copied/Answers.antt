-- By the rules that all proofs share.
use Rattle.std.proofs.Common.{rules}
use Rattle.move_op.proofs.shift.copied.Goals as goal

pub returns : goal.returns
returns c = search rules
