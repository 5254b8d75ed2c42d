-- The number is the one that it is told.
use Rattle.std.proofs.Common.{refl}
use Rattle.shared_image.proofs.caller.site_of.Goals as goal

pub returns-clause-number : goal.returns-clause-number
returns-clause-number c = refl
