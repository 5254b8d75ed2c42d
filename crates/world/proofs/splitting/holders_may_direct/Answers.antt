use Rattle.world.proofs.holders.directing.Directing.{may_direct}
use Rattle.world.proofs.splitting.holders_may_direct.Goals as goal

pub returns : goal.returns
returns c = may_direct
