-- By the rules that all proofs share.
use Rattle.std.proofs.Common.{rules}
use Rattle.image_rules.proofs.leaves.raise.Goals as goal

pub loop-leaf-preserved : goal.loop-leaf-preserved
loop-leaf-preserved c = search rules
