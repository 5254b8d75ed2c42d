-- By the step.
use Rattle.read_op.proofs.steps.Falling.{falls, most, ends_in_time}
use Rattle.read_op.proofs.laws.ends_in_time.Goals as goal

pub returns-clause-falls : goal.returns-clause-falls
returns-clause-falls c = falls

pub returns-clause-most : goal.returns-clause-most
returns-clause-most c = most

pub returns-clause-ends : goal.returns-clause-ends
returns-clause-ends c = ends_in_time
