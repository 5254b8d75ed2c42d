use Rattle.world.proofs.fitting.Others.{spare_others}
use Rattle.world.proofs.areas.stores_spare_others.Goals as goal

pub returns : goal.returns
returns c = spare_others
