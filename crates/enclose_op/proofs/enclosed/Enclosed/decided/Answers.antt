-- By the rules that all proofs share.
use Rattle.std.proofs.Common.{rules}
use Rattle.enclose_op.proofs.enclosed.Enclosed.decided.Goals as goal

pub returns-then-from-depth : goal.returns-then-from-depth
returns-then-from-depth c = search rules

pub returns-else-from-depth : goal.returns-else-from-depth
returns-else-from-depth c = search rules
