-- By the step.
use Rattle.part.proofs.Counting.{ends_by_cause, begins_as_part, begins_remembering, begins_undecided}
use Rattle.part.proofs.laws.counts_are_parts.Goals as goal

pub returns-clause-causes : goal.returns-clause-causes
returns-clause-causes c = ends_by_cause

pub returns-clause-begins : goal.returns-clause-begins
returns-clause-begins c = begins_as_part

pub returns-clause-remembers : goal.returns-clause-remembers
returns-clause-remembers c = begins_remembering

pub returns-clause-undecided : goal.returns-clause-undecided
returns-clause-undecided c = begins_undecided
