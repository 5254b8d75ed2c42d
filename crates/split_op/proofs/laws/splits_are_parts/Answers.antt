-- By its steps.
use Rattle.split_op.proofs.Falling.{is_within_image}
use Rattle.split_op.proofs.SplitIsPart.{split_is_part, begins_as_part, begins_undecided, hands_on_copied}
use Rattle.split_op.proofs.sides.Made.{copies_from}
use Rattle.split_op.proofs.laws.splits_are_parts.Goals as goal

pub returns-clause-part : goal.returns-clause-part
returns-clause-part c = split_is_part

pub returns-clause-few : goal.returns-clause-few
returns-clause-few c = is_within_image

pub returns-clause-begins : goal.returns-clause-begins
returns-clause-begins c = begins_as_part

pub returns-clause-undecided : goal.returns-clause-undecided
returns-clause-undecided c = begins_undecided

pub returns-clause-hands : goal.returns-clause-hands
returns-clause-hands c = hands_on_copied

pub returns-clause-copies : goal.returns-clause-copies
returns-clause-copies c site here call e ground = copies_from site ground here call e
