-- By its only outcome, and by what is remembered in each step.
use Rattle.mend_op.proofs.part.MendIsPart.{ends_repaired}
use Rattle.mend_op.proofs.part.ByCause.{finishes_current, ends_by_cause}
use Rattle.mend_op.proofs.laws.mends_end_repaired.Goals as goal

pub returns-clause-finished : goal.returns-clause-finished
returns-clause-finished c = ends_repaired

pub returns-clause-causes : goal.returns-clause-causes
returns-clause-causes c = ends_by_cause

pub returns-clause-current : goal.returns-clause-current
returns-clause-current c = finishes_current

pub returns-clause-remembers : goal.returns-clause-remembers
returns-clause-remembers c site guarded did = tt
