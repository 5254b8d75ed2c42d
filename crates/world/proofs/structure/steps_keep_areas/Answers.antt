use Rattle.world.proofs.moving.keeping.Fitting.{keep_areas}
use Rattle.world.proofs.moving.Used.{used_kept}
use Rattle.world.proofs.moving.media.Taken.{slots_settled}
use Rattle.world.proofs.structure.steps_keep_areas.Goals as goal

pub returns-clause-areas : goal.returns-clause-areas
returns-clause-areas c = keep_areas

pub returns-clause-slots : goal.returns-clause-slots
returns-clause-slots c = slots_settled

pub returns-clause-used : goal.returns-clause-used
returns-clause-used c = used_kept
