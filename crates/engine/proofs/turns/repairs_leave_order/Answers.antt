-- By the laws of a part and of the world.
use Rattle.engine.proofs.holding.Repaired.{turn_repairs, between_is_in_order}
use Rattle.engine.proofs.turns.repairs_leave_order.Goals as goal

pub returns-clause-turns : goal.returns-clause-turns
returns-clause-turns c = turn_repairs c.calls_are_parts.ensures.part c.stale_segments_only_go.ensures.repaired

pub returns-clause-between : goal.returns-clause-between
returns-clause-between c = between_is_in_order c.calls_are_parts.ensures.bare
