-- By the end of a restart.
use Rattle.engine.proofs.holding.Opening.{opened_holds}
use Rattle.engine.proofs.turns.opened_holds.Goals as goal

pub returns : goal.returns
returns c = opened_holds c.core_begins.ensures c.close_begins.ensures.quiet c.restart_begins.ensures.started
