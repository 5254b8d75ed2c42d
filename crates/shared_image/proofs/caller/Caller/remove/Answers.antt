-- It is made as a removal.
use Rattle.shared_image.proofs.caller.Caller.remove.Goals as goal

pub returns-clause-came : goal.returns-clause-came
returns-clause-came g c = c.make.ensures.came
