use Rattle.restart_op.proofs.closes.CloseEnding.{falls, most, ends_in_time, few_wait}
use Rattle.restart_op.proofs.closing.close_ends.Goals as goal

pub returns-clause-falls : goal.returns-clause-falls
returns-clause-falls c = falls

pub returns-clause-most : goal.returns-clause-most
returns-clause-most c = most

pub returns-clause-ends : goal.returns-clause-ends
returns-clause-ends c = ends_in_time

pub returns-clause-few_wait : goal.returns-clause-few_wait
returns-clause-few_wait c = few_wait
