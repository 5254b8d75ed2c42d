-- No claim depends on a version.
use Rattle.segment_table.proofs.StoreLaws.{renews, opens}
use Rattle.segment_table.proofs.laws.versions_are_stored.Goals as goal

pub returns-clause-byte : goal.returns-clause-byte
returns-clause-byte c = renews

pub returns-clause-state : goal.returns-clause-state
returns-clause-state c = opens
