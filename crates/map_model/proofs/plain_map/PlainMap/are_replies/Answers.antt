-- By the steps that all proofs share.
use Rattle.std.proofs.Common.{arith}
use Rattle.std.proofs.lemmas.Grind.{common_steps}
use Rattle.map_model.proofs.plain_map.PlainMap.are_replies.Goals as goal

pub returns-then-not-may_answer : goal.returns-then-not-may_answer
returns-then-not-may_answer c = grind (arith, common_steps)
