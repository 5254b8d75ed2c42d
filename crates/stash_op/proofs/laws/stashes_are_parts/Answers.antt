-- Its laws, one by one.
use Rattle.stash_op.proofs.parts.Parted.{stash_is_part, begins_as_part, begins_undecided, hands_on_all, never_finished, never_splits}
use Rattle.stash_op.proofs.causing.Recalling.{begins_remembering, hands_on_remembering}
use Rattle.stash_op.proofs.causing.ByCause.{stash_ends_by_cause}
use Rattle.stash_op.proofs.laws.stashes_are_parts.Goals as goal

pub returns-clause-part : goal.returns-clause-part
returns-clause-part c = stash_is_part

pub returns-clause-causes : goal.returns-clause-causes
returns-clause-causes c = stash_ends_by_cause

pub returns-clause-begins : goal.returns-clause-begins
returns-clause-begins c = begins_as_part

pub returns-clause-remembers : goal.returns-clause-remembers
returns-clause-remembers c = begins_remembering

pub returns-clause-undecided : goal.returns-clause-undecided
returns-clause-undecided c = begins_undecided

pub returns-clause-hands_on : goal.returns-clause-hands_on
returns-clause-hands_on c = hands_on_all

pub returns-clause-hands_memory : goal.returns-clause-hands_memory
returns-clause-hands_memory c = hands_on_remembering

pub returns-clause-finished : goal.returns-clause-finished
returns-clause-finished c = never_finished

pub returns-clause-splits : goal.returns-clause-splits
returns-clause-splits c = never_splits
