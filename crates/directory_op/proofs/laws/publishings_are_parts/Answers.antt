-- By its steps, and by the law of who makes a side live.
use Rattle.std.proofs.Common.{refl}
use Rattle.directory_op.proofs.DirectoryIsPart.{directory_is_part}
use Rattle.directory_op.proofs.Plain.{begins_as_part, begins_undecided, hands_on_published, hands_on_split, ends_off}
use Rattle.directory_op.proofs.laws.publishings_are_parts.Goals as goal

pub returns-clause-part : goal.returns-clause-part
returns-clause-part c = directory_is_part c.holders_may_publish.ensures

pub returns-clause-few : goal.returns-clause-few
returns-clause-few c = λ copied. refl

pub returns-clause-begins : goal.returns-clause-begins
returns-clause-begins c = begins_as_part

pub returns-clause-undecided : goal.returns-clause-undecided
returns-clause-undecided c = begins_undecided

pub returns-clause-published : goal.returns-clause-published
returns-clause-published c = hands_on_published

pub returns-clause-split : goal.returns-clause-split
returns-clause-split c = hands_on_split

pub returns-clause-off : goal.returns-clause-off
returns-clause-off c = ends_off
