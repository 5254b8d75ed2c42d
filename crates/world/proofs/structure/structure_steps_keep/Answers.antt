use Rattle.world.proofs.mild.Holding.{holding_kept}
use Rattle.world.proofs.structure.structure_steps_keep.Goals as goal

pub returns : goal.returns
returns c = holding_kept
