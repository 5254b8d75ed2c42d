use Rattle.world.proofs.fitting.Calling.{callers_keep_areas}
use Rattle.world.proofs.areas.callers_keep_areas.Goals as goal

pub returns : goal.returns
returns c = callers_keep_areas
