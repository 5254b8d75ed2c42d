use Rattle.world.proofs.holders.mending.Mending.{may_mend}
use Rattle.world.proofs.mending.repairers_may_mend.Goals as goal

pub returns : goal.returns
returns c = may_mend
