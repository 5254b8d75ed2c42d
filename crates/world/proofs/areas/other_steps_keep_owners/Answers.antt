use Rattle.world.proofs.fitting.lasting.Lasting.{others_last, sparing_lasts, fences_last}
use Rattle.world.proofs.areas.other_steps_keep_owners.Goals as goal

pub returns-clause-stores : goal.returns-clause-stores
returns-clause-stores c = others_last

pub returns-clause-sparing : goal.returns-clause-sparing
returns-clause-sparing c = sparing_lasts

pub returns-clause-fences : goal.returns-clause-fences
returns-clause-fences c = fences_last
