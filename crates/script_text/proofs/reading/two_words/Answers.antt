-- By the rules that all proofs share.
use Rattle.std.proofs.Common.{rules}
use Rattle.script_text.proofs.reading.two_words.Goals as goal

pub returns-in-None : goal.returns-in-None
returns-in-None c = search rules
