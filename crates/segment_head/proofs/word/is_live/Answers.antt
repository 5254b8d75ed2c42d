-- Two of the states are live.
use Rattle.std.proofs.Common.{rules}
use Rattle.segment_head.proofs.word.is_live.Goals as goal

pub returns-else-state-eq-NORMAL-clause-is : goal.returns-else-state-eq-NORMAL-clause-is
returns-else-state-eq-NORMAL-clause-is c = search rules

pub returns-else-state-eq-NORMAL-clause-live : goal.returns-else-state-eq-NORMAL-clause-live
returns-else-state-eq-NORMAL-clause-live c = search rules
