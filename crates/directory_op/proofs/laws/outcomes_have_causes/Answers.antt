-- By what each event decides.
use Rattle.directory_op.proofs.ends.ByCause.{ends_by_split_cause}
use Rattle.directory_op.proofs.laws.outcomes_have_causes.Goals as goal

pub returns : goal.returns
returns c = ends_by_split_cause
