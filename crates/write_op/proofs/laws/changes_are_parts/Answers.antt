-- A change is a part of a call.
use Rattle.write_op.proofs.parts.Parted.{change_is_part, begins_as_part, begins_bare, begins_undecided, begins_remembering, hands_on_all, hands_on_remembering, never_finished, never_splits}
use Rattle.write_op.proofs.causing.ByCause.{change_ends_by_cause}
use Rattle.write_op.proofs.laws.changes_are_parts.Goals as goal

pub returns-clause-part : goal.returns-clause-part
returns-clause-part c = change_is_part

pub returns-clause-causes : goal.returns-clause-causes
returns-clause-causes c = change_ends_by_cause

pub returns-clause-undecided : goal.returns-clause-undecided
returns-clause-undecided c = begins_undecided

pub returns-clause-begins : goal.returns-clause-begins
returns-clause-begins c = begins_as_part

pub returns-clause-bare : goal.returns-clause-bare
returns-clause-bare c = begins_bare

pub returns-clause-remembers : goal.returns-clause-remembers
returns-clause-remembers c = begins_remembering

pub returns-clause-hands_on : goal.returns-clause-hands_on
returns-clause-hands_on c = hands_on_all

pub returns-clause-handed : goal.returns-clause-handed
returns-clause-handed c = hands_on_remembering

pub returns-clause-finished : goal.returns-clause-finished
returns-clause-finished c = never_finished

pub returns-clause-splits : goal.returns-clause-splits
returns-clause-splits c = never_splits
