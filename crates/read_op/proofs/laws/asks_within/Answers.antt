-- By the step.
use Rattle.read_op.proofs.steps.Asked.{asks_within}
use Rattle.read_op.proofs.laws.asks_within.Goals as goal

pub returns : goal.returns
returns c = asks_within
