-- By the rules that all proofs share.
use Rattle.std.proofs.Common.{rules}
use Rattle.script_text.proofs.phase.Phase.may_follow.Goals as goal

pub returns-else-eq : goal.returns-else-eq
returns-else-eq c = search rules
