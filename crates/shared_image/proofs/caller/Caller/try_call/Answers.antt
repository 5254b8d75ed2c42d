-- The call is the one that it is told.
use Rattle.std.proofs.Common.{refl}
use Rattle.shared_image.proofs.caller.Caller.try_call.Goals as goal

pub returns-clause-same : goal.returns-clause-same
returns-clause-same g c = (refl, refl, refl)
