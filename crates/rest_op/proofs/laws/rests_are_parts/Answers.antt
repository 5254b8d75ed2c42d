-- By its steps, and by its only outcome.
use Rattle.rest_op.proofs.ByCause.{ends_by_split_cause}
use Rattle.rest_op.proofs.Heading.{stores_header}
use Rattle.rest_op.proofs.RestIsPart.{rest_is_part, begins_as_part, begins_undecided, ends_as_split}
use Rattle.rest_op.proofs.whole.Reckoning.{whole_is_reckoned}
use Rattle.rest_op.proofs.laws.rests_are_parts.Goals as goal

pub returns-clause-part : goal.returns-clause-part
returns-clause-part c = rest_is_part

pub returns-clause-causes : goal.returns-clause-causes
returns-clause-causes c = ends_by_split_cause

pub returns-clause-begins : goal.returns-clause-begins
returns-clause-begins c = begins_as_part

pub returns-clause-undecided : goal.returns-clause-undecided
returns-clause-undecided c = begins_undecided

pub returns-clause-finished : goal.returns-clause-finished
returns-clause-finished c = ends_as_split

pub returns-clause-reckoned : goal.returns-clause-reckoned
returns-clause-reckoned c site here call e ground = whole_is_reckoned site ground here call e

pub returns-clause-header : goal.returns-clause-header
returns-clause-header c = stores_header
