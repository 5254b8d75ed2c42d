use Rattle.std.proofs.Common.{append_assoc}
use Rattle.reply_text.proofs.Written.{by_equation}
use Rattle.reply_text.proofs.text.push_entry.Goals as goal

pub returns : goal.returns
returns c = by_equation c.write.result _ _ _ c.write.ensures.bytes (simp append_assoc)
