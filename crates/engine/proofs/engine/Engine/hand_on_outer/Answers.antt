-- By the rules that all proofs share.
use Rattle.std.proofs.Common.{rules}
use Rattle.engine.proofs.engine.Engine.hand_on_outer.Goals as goal

pub returns-in-Split : goal.returns-in-Split
returns-in-Split c = search rules
