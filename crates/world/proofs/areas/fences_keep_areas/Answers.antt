use Rattle.world.proofs.fitting.Spared.{fences_keep, sparing_steps, foreign_spared}
use Rattle.world.proofs.areas.fences_keep_areas.Goals as goal

pub returns-clause-fences : goal.returns-clause-fences
returns-clause-fences c = fences_keep

pub returns-clause-sparing : goal.returns-clause-sparing
returns-clause-sparing c = sparing_steps

pub returns-clause-foreign : goal.returns-clause-foreign
returns-clause-foreign c = foreign_spared
