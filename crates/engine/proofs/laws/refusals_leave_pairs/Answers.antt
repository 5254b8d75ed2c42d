-- By the laws of a part.
use Rattle.engine.proofs.machines.Begins.{begins_unmade}
use Rattle.engine.proofs.machines.Pairs.{leaves_or_makes, ends_as_done, turn_leaves_or_makes}
use Rattle.engine.proofs.laws.refusals_leave_pairs.Goals as goal

pub returns-clause-leaves : goal.returns-clause-leaves
returns-clause-leaves c = leaves_or_makes c.calls_are_parts.ensures.part c.steps_leave.ensures.pairs

pub returns-clause-begins : goal.returns-clause-begins
returns-clause-begins c = begins_unmade

pub returns-clause-stays : goal.returns-clause-stays
returns-clause-stays c = λ e ans i made. c.calls_are_parts.ensures.part.made.stays e.op ans i made

pub returns-clause-done : goal.returns-clause-done
returns-clause-done c = ends_as_done c.calls_are_parts.ensures.part c.ends_tell.ensures c.ends_tell-2.ensures c.ends_tell-3.ensures

pub returns-clause-turns : goal.returns-clause-turns
returns-clause-turns c = turn_leaves_or_makes (leaves_or_makes c.calls_are_parts.ensures.part c.steps_leave.ensures.pairs)
