-- By what each event decides, and what is remembered after it.
use Rattle.repair_op.proofs.causes.ByCause.{ends_by_repair_cause}
use Rattle.repair_op.proofs.Current.{finishes_current}
use Rattle.repair_op.proofs.causes.Old.{stays_old}
use Rattle.repair_op.proofs.Recalling.{begins_remembering, hands_on_remembered}
use Rattle.repair_op.proofs.laws.ends_have_causes.Goals as goal

pub returns-clause-causes : goal.returns-clause-causes
returns-clause-causes c = ends_by_repair_cause

pub returns-clause-current : goal.returns-clause-current
returns-clause-current c = finishes_current

pub returns-clause-old : goal.returns-clause-old
returns-clause-old c = stays_old

pub returns-clause-remembers : goal.returns-clause-remembers
returns-clause-remembers c = begins_remembering

pub returns-clause-remembered : goal.returns-clause-remembered
returns-clause-remembered c = hands_on_remembered
