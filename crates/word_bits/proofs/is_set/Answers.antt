-- By the rules that all proofs share.
use Rattle.std.proofs.Common.{arith}
use Rattle.std.proofs.lemmas.Grind.{common_steps}
use Rattle.word_bits.proofs.is_set.Goals as goal

pub returns : goal.returns
returns c = grind (arith, common_steps)
