use Rattle.world.proofs.moving.beginning.Begun.{restarts_begin, none_current, raised_begins}
use Rattle.world.proofs.moving.beginning.Restarting.{sound_images_begin}
use Rattle.world.proofs.structure.structure_begins.Goals as goal

pub returns-clause-begins : goal.returns-clause-begins
returns-clause-begins c = restarts_begin

pub returns-clause-any : goal.returns-clause-any
returns-clause-any c = sound_images_begin

pub returns-clause-none : goal.returns-clause-none
returns-clause-none c = none_current

pub returns-clause-raised : goal.returns-clause-raised
returns-clause-raised c = raised_begins
