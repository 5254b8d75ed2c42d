-- By the step.
use Rattle.write_op.proofs.causing.Telling.{publishes_there}
use Rattle.write_op.proofs.parts.Unmade.{made_only_so}
use Rattle.write_op.proofs.finding.Roomiest.{inserts_where_fewer}
use Rattle.write_op.proofs.laws.changes_are_made_once.Goals as goal

pub returns-clause-publishes : goal.returns-clause-publishes
returns-clause-publishes c = publishes_there

pub returns-clause-only : goal.returns-clause-only
returns-clause-only c = made_only_so

pub returns-clause-chooses : goal.returns-clause-chooses
returns-clause-chooses c = inserts_where_fewer
