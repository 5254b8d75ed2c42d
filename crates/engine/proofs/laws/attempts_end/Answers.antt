-- By the law of a part, where no machine of the call itself waits, and the sums of what its machines ask at most.
use Rattle.std.proofs.Common.{arith}
use Rattle.read_op.specs.Steps.{begun as read_begun}
use Rattle.engine.proofs.machines.Ops.{never_waits}
use Rattle.engine.proofs.machines.Begins.{begins_few}
use Rattle.engine.proofs.laws.attempts_end.Goals as goal

pub returns-clause-falls : goal.returns-clause-falls
returns-clause-falls c = λ e ans i. c.calls_are_parts.ensures.part.time.falls e.op ans i

pub returns-clause-most : goal.returns-clause-most
returns-clause-most c = λ e. c.calls_are_parts.ensures.part.time.most e.op

pub returns-clause-waits : goal.returns-clause-waits
returns-clause-waits c = λ e own. never_waits e.op own

pub returns-clause-few : goal.returns-clause-few
returns-clause-few c = begins_few c.gets_are_parts.ensures.part c.changes_are_parts.ensures.part

pub returns-clause-few_of_get : goal.returns-clause-few_of_get
returns-clause-few_of_get c = λ site key. let low = c.gets_are_parts.ensures.part.time.most (read_begun key site) in omega (arith, low)
