use Rattle.world.proofs.mild.Kept.{others_kept}
use Rattle.world.proofs.structure.other_parts_stay.Goals as goal

pub returns : goal.returns
returns c = others_kept
