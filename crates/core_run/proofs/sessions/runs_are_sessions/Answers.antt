-- By what holds of the last state of a run.
use Rattle.core_run.proofs.OneSession.{runs_are_sessions}
use Rattle.core_run.proofs.sessions.runs_are_sessions.Goals as goal

pub returns : goal.returns
returns c = runs_are_sessions c.runs_are_well.ensures c.moments_are_good.ensures c.closed_is_closed.ensures c.tolds_follow.ensures
