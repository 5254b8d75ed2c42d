use Rattle.world.proofs.stepping.Slots.{current_stays, nothing_grows_stale, stale_stays, renewed_are_current, current_is_repaired}
use Rattle.world.proofs.steps.stale_segments_only_go.Goals as goal

pub returns-clause-current : goal.returns-clause-current
returns-clause-current c = current_stays

pub returns-clause-stale : goal.returns-clause-stale
returns-clause-stale c = nothing_grows_stale

pub returns-clause-stays : goal.returns-clause-stays
returns-clause-stays c = stale_stays

pub returns-clause-renewed : goal.returns-clause-renewed
returns-clause-renewed c = renewed_are_current

pub returns-clause-repaired : goal.returns-clause-repaired
returns-clause-repaired c = current_is_repaired
