-- By its steps.
use Rattle.repair_op.proofs.RepairIsPart.{repair_is_part, begins_as_repair, begins_undecided, hands_on_guarded, ends_as_said}
use Rattle.repair_op.proofs.laws.repairs_are_parts.Goals as goal

pub returns-clause-part : goal.returns-clause-part
returns-clause-part c = repair_is_part

pub returns-clause-begins : goal.returns-clause-begins
returns-clause-begins c = begins_as_repair

pub returns-clause-undecided : goal.returns-clause-undecided
returns-clause-undecided c = begins_undecided

pub returns-clause-guarded : goal.returns-clause-guarded
returns-clause-guarded c = hands_on_guarded

pub returns-clause-ends : goal.returns-clause-ends
returns-clause-ends c = ends_as_said
