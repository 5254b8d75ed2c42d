-- By the rules that all proofs share.
use Rattle.std.proofs.Common.{rules}
use Rattle.reply_text.proofs.lines.storm_line.Goals as goal

pub returns : goal.returns
returns c = search rules
