-- By its steps.
use Rattle.std.proofs.Common.{refl}
use Rattle.mend_op.proofs.part.MendIsPart.{mend_is_part, begins_as_part}
use Rattle.mend_op.proofs.laws.mends_are_parts.Goals as goal

pub returns-clause-part : goal.returns-clause-part
returns-clause-part c = mend_is_part

pub returns-clause-begins : goal.returns-clause-begins
returns-clause-begins c = begins_as_part

pub returns-clause-undecided : goal.returns-clause-undecided
returns-clause-undecided c guarded = refl
