-- A segment that claims none of its 1-side has a ready side, and what begins behind it is deeper.
use Rattle.world.proofs.holders.repairing.Redirecting.{may_redirect}
use Rattle.world.proofs.repairing.repairers_may_redirect.Goals as goal

pub returns : goal.returns
returns c = may_redirect
