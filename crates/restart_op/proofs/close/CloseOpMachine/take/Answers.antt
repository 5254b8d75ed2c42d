-- By the rules that all proofs share.
use Rattle.std.proofs.Common.{rules}
use Rattle.restart_op.proofs.close.CloseOpMachine.take.Goals as goal

pub returns-in-Value : goal.returns-in-Value
returns-in-Value c = search rules
