-- By the rules that all proofs share.
use Rattle.std.proofs.Common.{rules}
use Rattle.command_line.proofs.status.statuses_have_numbers.Goals as goal

pub returns-clause-refused : goal.returns-clause-refused
returns-clause-refused c = search rules
