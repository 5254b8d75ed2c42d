-- By the rules that all proofs share.
use Rattle.std.proofs.Common.{rules}
use Rattle.command_line.proofs.command.geometry_of.Goals as goal

pub returns-in-Ok-clause-some : goal.returns-in-Ok-clause-some
returns-in-Ok-clause-some c = search rules

pub returns-in-Err-clause-none : goal.returns-in-Err-clause-none
returns-in-Err-clause-none c = search rules
