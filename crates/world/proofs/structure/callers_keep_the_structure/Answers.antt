use Rattle.world.proofs.calls.standing.Structure.{structure_by_callers}
use Rattle.world.proofs.structure.callers_keep_the_structure.Goals as goal

pub returns : goal.returns
returns c = structure_by_callers
