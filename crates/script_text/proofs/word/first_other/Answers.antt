-- By the rules that all proofs share.
use Rattle.std.proofs.Common.{rules}
use Rattle.script_text.proofs.word.first_other.Goals as goal

pub returns : goal.returns
returns c = search rules
