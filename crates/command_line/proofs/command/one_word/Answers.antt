-- By the rules that all proofs share.
use Rattle.std.proofs.Common.{rules}
use Rattle.command_line.proofs.command.one_word.Goals as goal

pub returns-in-check : goal.returns-in-check
returns-in-check c = search rules
