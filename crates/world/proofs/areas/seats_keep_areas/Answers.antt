use Rattle.world.proofs.fitting.lasting.Seated.{cuts_keep_areas, joins_keep_areas}
use Rattle.world.proofs.areas.seats_keep_areas.Goals as goal

pub returns-clause-cuts : goal.returns-clause-cuts
returns-clause-cuts c = cuts_keep_areas

pub returns-clause-joins : goal.returns-clause-joins
returns-clause-joins c = joins_keep_areas
