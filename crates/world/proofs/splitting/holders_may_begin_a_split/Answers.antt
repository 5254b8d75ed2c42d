-- A segment that is marked has no ready side, and a new side is not live.
use Rattle.world.proofs.holders.filling.Beginning.{may_begin}
use Rattle.world.proofs.splitting.holders_may_begin_a_split.Goals as goal

pub returns : goal.returns
returns c = may_begin
