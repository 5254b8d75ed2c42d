-- It is the try of an update.
use Rattle.shared_image.proofs.caller.Caller.try_update.Goals as goal

pub returns-clause-same : goal.returns-clause-same
returns-clause-same g c = c.try_call.ensures.same

pub returns-clause-called : goal.returns-clause-called
returns-clause-called g c = c.try_call.ensures.called
