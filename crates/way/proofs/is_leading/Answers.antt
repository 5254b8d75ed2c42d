-- By the rules that all proofs share.
use Rattle.std.proofs.Common.{rules}
use Rattle.way.proofs.is_leading.Goals as goal

pub returns-then-state_of-eq-NORMAL : goal.returns-then-state_of-eq-NORMAL
returns-then-state_of-eq-NORMAL c = search rules

pub returns-else-state_of-eq-NORMAL : goal.returns-else-state_of-eq-NORMAL
returns-else-state_of-eq-NORMAL c = search rules
