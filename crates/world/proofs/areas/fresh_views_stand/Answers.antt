use Rattle.world.proofs.fitting.Beginning.{fresh_stand}
use Rattle.world.proofs.areas.fresh_views_stand.Goals as goal

pub returns : goal.returns
returns c = fresh_stand
