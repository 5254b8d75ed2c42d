-- By the rules that all proofs share.
use Rattle.std.proofs.Common.{rules}
use Rattle.move_op.proofs.taking.locked_to.Goals as goal

pub returns-in-Spent : goal.returns-in-Spent
returns-in-Spent c = search rules
