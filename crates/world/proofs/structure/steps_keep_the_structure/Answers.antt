use Rattle.world.proofs.moving.media.Whole.{structure_kept}
use Rattle.world.proofs.structure.steps_keep_the_structure.Goals as goal

pub returns : goal.returns
returns c = structure_kept
