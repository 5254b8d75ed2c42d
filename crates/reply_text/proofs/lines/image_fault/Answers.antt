-- By the rules that all proofs share.
use Rattle.std.proofs.Common.{rules}
use Rattle.reply_text.proofs.lines.image_fault.Goals as goal

pub returns-in-Magic : goal.returns-in-Magic
returns-in-Magic c = search rules
