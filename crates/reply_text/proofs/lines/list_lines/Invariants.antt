use Rattle.std.proofs.Common.{◌≡◌, ◌++◌, drop, string_bytes}
use Rattle.reply_text.specs.Texts.{list_text}
use Rattle.reply_text.proofs.lines.list_lines.Given as goal

abbrev pub invariant-loop-pair : goal.invariant-loop-pair
invariant-loop-pair l = string_bytes l.text ++ list_text (drop l.pair-index l.pairs) ≡ list_text l.pairs
