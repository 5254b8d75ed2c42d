-- A segment that links nothing, or claims its 1-side, has no ready side.
use Rattle.world.proofs.holders.repairing.TakingBack.{may_take_back}
use Rattle.world.proofs.repairing.repairers_may_take_back.Goals as goal

pub returns : goal.returns
returns c = may_take_back
