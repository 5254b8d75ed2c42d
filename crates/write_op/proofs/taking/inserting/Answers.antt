-- By the rules that all proofs share.
use Rattle.std.proofs.Common.{rules}
use Rattle.write_op.proofs.taking.inserting.Goals as goal

pub returns-in-Some-default : goal.returns-in-Some-default
returns-in-Some-default c = search rules
