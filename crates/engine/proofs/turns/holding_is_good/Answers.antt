-- By the laws of the world.
use Rattle.engine.proofs.sessions.Goodness.{holding_is_good}
use Rattle.engine.proofs.turns.holding_is_good.Goals as goal

pub returns : goal.returns
returns c = holding_is_good c.calls_are_parts.ensures.part c.entries_are_legal.ensures c.device_leaves_what_views_say.ensures
