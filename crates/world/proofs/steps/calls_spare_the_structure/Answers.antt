use Rattle.world.proofs.calls.deeds.Spares.{calls_spare}
use Rattle.world.proofs.steps.calls_spare_the_structure.Goals as goal

pub returns : goal.returns
returns c = calls_spare
