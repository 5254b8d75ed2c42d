-- By the rules that all proofs share.
use Rattle.std.proofs.Common.{rules}
use Rattle.command_line.proofs.arguments.parted.Goals as goal

pub returns-in-len2-up-clause-path : goal.returns-in-len2-up-clause-path
returns-in-len2-up-clause-path c = search rules
