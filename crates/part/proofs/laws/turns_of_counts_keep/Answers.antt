-- By the laws of a turn of any part.
use Rattle.part.specs.Count.{two_counts}
use Rattle.part.proofs.Turning.{turn_keeps}
use Rattle.part.proofs.Still.{never_moved}
use Rattle.part.proofs.laws.turns_of_counts_keep.Goals as goal

pub returns-clause-keeps : goal.returns-clause-keeps
returns-clause-keeps c =
    turn_keeps two_counts c.two_counts_are_a_part.ensures.part c.each_step_keeps.ensures c.steps_add_one_reply.ensures.callers c.structure_steps_change_no_pair.ensures.reply
    c.steps_leave.ensures.pairs c.steps_leave.ensures.power

pub returns-clause-alone : goal.returns-clause-alone
returns-clause-alone c = never_moved two_counts c.two_counts_are_a_part.ensures.causes
