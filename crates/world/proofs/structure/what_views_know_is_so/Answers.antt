use Rattle.world.proofs.moving.Known.{known_is_so}
use Rattle.world.proofs.structure.what_views_know_is_so.Goals as goal

pub returns : goal.returns
returns c = known_is_so
