-- By the law of a part.
use Rattle.engine.proofs.machines.Begins.{begins_waiting}
use Rattle.engine.proofs.laws.flushes_are_few.Goals as goal

pub returns-clause-begins : goal.returns-clause-begins
returns-clause-begins c = begins_waiting

pub returns-clause-most : goal.returns-clause-most
returns-clause-most c = λ e. c.calls_are_parts.ensures.part.flushes.most e.op

pub returns-clause-flushes : goal.returns-clause-flushes
returns-clause-flushes c = λ e ans l i f. c.calls_are_parts.ensures.part.flushes.flushes e.op ans l i f

pub returns-clause-keeps : goal.returns-clause-keeps
returns-clause-keeps c = λ e ans i f. c.calls_are_parts.ensures.part.flushes.keeps e.op ans i f

pub returns-clause-ends : goal.returns-clause-ends
returns-clause-ends c = λ e done. c.calls_are_parts.ensures.part.flushes.ends e.op done
