-- What it is made with.
use Rattle.std.proofs.Common.{refl}
use Rattle.play.proofs.starting.waiting_caller.Goals as goal

pub returns-clause-caller : goal.returns-clause-caller
returns-clause-caller c = refl

pub returns-clause-ended : goal.returns-clause-ended
returns-clause-ended c = refl
