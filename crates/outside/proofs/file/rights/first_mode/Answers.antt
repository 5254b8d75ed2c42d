-- By computing.
use Rattle.std.proofs.Common.{refl}
use Rattle.outside.proofs.file.rights.first_mode.Goals as goal

pub returns : goal.returns
returns c = refl
