-- By the steps that all proofs share.
use Rattle.std.proofs.Common.{arith}
use Rattle.std.proofs.lemmas.Grind.{common_steps}
use Rattle.map_model.proofs.lists.Lists.callers.Goals as goal

pub returns : goal.returns
returns c = grind (arith, common_steps)
