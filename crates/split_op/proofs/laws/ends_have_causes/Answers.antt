-- By what each step remembers, and what it decides.
use Rattle.split_op.proofs.causes.ByCause.{ends_by_split_cause}
use Rattle.split_op.proofs.causes.Holding.{says_full_of_held}
use Rattle.split_op.proofs.causes.Recalling.{begins_remembering}
use Rattle.split_op.proofs.laws.ends_have_causes.Goals as goal

pub returns-clause-causes : goal.returns-clause-causes
returns-clause-causes c = ends_by_split_cause

pub returns-clause-remembers : goal.returns-clause-remembers
returns-clause-remembers c = begins_remembering

pub returns-clause-held : goal.returns-clause-held
returns-clause-held c = says_full_of_held
