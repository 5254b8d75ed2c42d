use Rattle.world.proofs.fitting.lasting.Saying.{stores_keep_said, fences_keep_said, sparing_keeps_said, rows_keep_saying}
use Rattle.world.proofs.areas.said_stays.Goals as goal

pub returns-clause-stores : goal.returns-clause-stores
returns-clause-stores c = stores_keep_said

pub returns-clause-fences : goal.returns-clause-fences
returns-clause-fences c = fences_keep_said

pub returns-clause-sparing : goal.returns-clause-sparing
returns-clause-sparing c = sparing_keeps_said

pub returns-clause-rows : goal.returns-clause-rows
returns-clause-rows c = rows_keep_saying
