-- By how far the run is.
use Rattle.core_run.proofs.Follows.{tolds_follow}
use Rattle.core_run.proofs.states.tolds_follow.Goals as goal

pub returns : goal.returns
returns c = tolds_follow
