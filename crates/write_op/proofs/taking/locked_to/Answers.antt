-- By the rules that all proofs share.
use Rattle.std.proofs.Common.{rules}
use Rattle.write_op.proofs.taking.locked_to.Goals as goal

pub returns-in-Busy : goal.returns-in-Busy
returns-in-Busy c = search rules
