-- They compute to the same numbers.
use Rattle.std.proofs.Common.{refl}
use Rattle.image_layout.proofs.laws.largest_is_written_out.Goals as goal

pub returns : goal.returns
returns c kind = record { power = refl; first = refl; words = refl }
