-- By what its event at the guard of the directory decides.
use Rattle.redirect_op.proofs.laws.ends_have_causes.Goals as goal
use Rattle.redirect_op.proofs.causes.ByCause.{ends_by_repair_cause, begins_remembering}
use Rattle.redirect_op.proofs.causes.Old.{stays_old}

pub returns-clause-causes : goal.returns-clause-causes
returns-clause-causes c = ends_by_repair_cause

pub returns-clause-old : goal.returns-clause-old
returns-clause-old c = stays_old

pub returns-clause-remembers : goal.returns-clause-remembers
returns-clause-remembers c = begins_remembering
