use Rattle.world.proofs.mild.Bridging.{callers_know}
use Rattle.world.proofs.structure.callers_know_as_before.Goals as goal

pub returns : goal.returns
returns c = callers_know
