-- By its steps.
use Rattle.release_op.proofs.ReleaseIsPart.{release_is_part, begins_as_part, begins_undecided}
use Rattle.release_op.proofs.Causing.{release_ends_by_cause, begins_remembering}
use Rattle.release_op.proofs.Ends.{never_finished}
use Rattle.release_op.proofs.laws.releases_are_parts.Goals as goal

pub returns-clause-part : goal.returns-clause-part
returns-clause-part c = release_is_part

pub returns-clause-causes : goal.returns-clause-causes
returns-clause-causes c = release_ends_by_cause

pub returns-clause-begins : goal.returns-clause-begins
returns-clause-begins c = begins_as_part

pub returns-clause-remembers : goal.returns-clause-remembers
returns-clause-remembers c = begins_remembering

pub returns-clause-undecided : goal.returns-clause-undecided
returns-clause-undecided c = begins_undecided

pub returns-clause-finished : goal.returns-clause-finished
returns-clause-finished c = never_finished
