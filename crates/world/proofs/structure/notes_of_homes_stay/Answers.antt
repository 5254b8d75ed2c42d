use Rattle.world.proofs.mild.Kept.{notes_of_homes_kept}
use Rattle.world.proofs.structure.notes_of_homes_stay.Goals as goal

pub returns : goal.returns
returns c = notes_of_homes_kept
