-- By the events of a caller, and those of the close.
use Rattle.core_run.proofs.ends.Staying.{begins_along, comes_along}
use Rattle.core_run.proofs.runs.turns_lead_here.Goals as goal

pub returns-clause-begins : goal.returns-clause-begins
returns-clause-begins c = begins_along

pub returns-clause-comes : goal.returns-clause-comes
returns-clause-comes c = comes_along c.close_ends.ensures.falls
