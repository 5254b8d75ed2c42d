-- The words of a slot in which no segment lives are nobody's, and a link says nothing where nothing is split.
use Rattle.world.proofs.holders.filling.Filling.{may_fill}
use Rattle.world.proofs.splitting.holders_may_fill.Goals as goal

pub returns : goal.returns
returns c = may_fill
