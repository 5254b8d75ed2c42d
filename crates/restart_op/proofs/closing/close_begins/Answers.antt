use Rattle.restart_op.proofs.Quiet.{fits_by_events, quiet_after_restart}
use Rattle.restart_op.proofs.closing.close_begins.Goals as goal

pub returns-clause-fits : goal.returns-clause-fits
returns-clause-fits c = fits_by_events

pub returns-clause-quiet : goal.returns-clause-quiet
returns-clause-quiet c = quiet_after_restart
