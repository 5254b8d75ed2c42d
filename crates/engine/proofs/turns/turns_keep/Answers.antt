-- Turn by turn, from the end of a restart on.
use Rattle.engine.proofs.holding.Opening.{turns_keep, calls_are_scripts}
use Rattle.engine.proofs.turns.turns_keep.Goals as goal

pub returns-clause-good : goal.returns-clause-good
returns-clause-good c = turns_keep c.opened_holds.ensures c.turn_keeps.ensures.all c.holding_is_good.ensures c.restart_begins.ensures.pairs

pub returns-clause-scripts : goal.returns-clause-scripts
returns-clause-scripts c = calls_are_scripts c.turn_keeps.ensures.calls
