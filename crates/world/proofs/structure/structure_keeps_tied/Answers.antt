use Rattle.world.proofs.moving.media.Tying.{do_events, keep_tied, flushes_keep_tied, callers_keep_tied, steps_move_well, restarts_move_well}
use Rattle.world.proofs.structure.structure_keeps_tied.Goals as goal

pub returns-clause-events : goal.returns-clause-events
returns-clause-events c = do_events

pub returns-clause-steps : goal.returns-clause-steps
returns-clause-steps c = keep_tied

pub returns-clause-flushes : goal.returns-clause-flushes
returns-clause-flushes c = flushes_keep_tied

pub returns-clause-callers : goal.returns-clause-callers
returns-clause-callers c = callers_keep_tied

pub returns-clause-well : goal.returns-clause-well
returns-clause-well c = steps_move_well

pub returns-clause-begins : goal.returns-clause-begins
returns-clause-begins c = restarts_move_well
