use Rattle.world.proofs.holders.directing.Finishing.{may_finish}
use Rattle.world.proofs.splitting.holders_may_finish.Goals as goal

pub returns : goal.returns
returns c = may_finish
