-- By the laws of a get.
use Rattle.read_op.proofs.parts.GetIsPart.{get_is_part}
use Rattle.read_op.proofs.parts.Deciding.{get_ends_by_cause}
use Rattle.read_op.proofs.parts.Beginning.{begins_as_part, begins_undecided, begins_remembering, never_finished, never_splits}
use Rattle.read_op.proofs.Opening.{has_ended}
use Rattle.read_op.proofs.laws.gets_are_parts.Goals as goal

pub returns-clause-part : goal.returns-clause-part
returns-clause-part c =
    get_is_part c.ends_have_causes.ensures.reads c.fits_the_world.ensures.wants c.fits_the_world.ensures.may c.fits_the_world.ensures.keeps c.ends_in_time.ensures.falls
    c.ends_in_time.ensures.most c.asks_within.ensures

pub returns-clause-causes : goal.returns-clause-causes
returns-clause-causes c = get_ends_by_cause

pub returns-clause-begins : goal.returns-clause-begins
returns-clause-begins c = begins_as_part c.fits_the_world.ensures.begins

pub returns-clause-undecided : goal.returns-clause-undecided
returns-clause-undecided c = begins_undecided

pub returns-clause-remembers : goal.returns-clause-remembers
returns-clause-remembers c = begins_remembering

pub returns-clause-ends : goal.returns-clause-ends
returns-clause-ends c = λ op done. has_ended op.task op.step done

pub returns-clause-finished : goal.returns-clause-finished
returns-clause-finished c = never_finished

pub returns-clause-splits : goal.returns-clause-splits
returns-clause-splits c = never_splits
