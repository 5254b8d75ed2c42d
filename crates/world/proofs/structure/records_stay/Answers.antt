use Rattle.world.proofs.mild.Kept.{records_kept}
use Rattle.world.proofs.structure.records_stay.Goals as goal

pub returns : goal.returns
returns c = records_kept
