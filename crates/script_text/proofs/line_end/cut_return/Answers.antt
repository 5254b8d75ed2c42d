-- By the rules that all proofs share.
use Rattle.std.proofs.Common.{rules}
use Rattle.script_text.proofs.line_end.cut_return.Goals as goal

pub returns-in-Some-eq13 : goal.returns-in-Some-eq13
returns-in-Some-eq13 c = search rules
