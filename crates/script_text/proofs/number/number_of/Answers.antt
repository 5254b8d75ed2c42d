-- By the rules that all proofs share.
use Rattle.std.proofs.Common.{rules}
use Rattle.script_text.proofs.number.number_of.Goals as goal

pub loop-byte-init : goal.loop-byte-init
loop-byte-init c = search rules
