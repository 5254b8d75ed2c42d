-- By its steps.
use Rattle.redirect_op.proofs.laws.redirects_are_parts.Goals as goal
use Rattle.redirect_op.proofs.RedirectIsPart.{redirect_is_part, begins_as_part, begins_undecided, begins_within_image, hands_on_redirected, ends_as_said}

pub returns-clause-part : goal.returns-clause-part
returns-clause-part c = redirect_is_part

pub returns-clause-begins : goal.returns-clause-begins
returns-clause-begins c = begins_as_part

pub returns-clause-undecided : goal.returns-clause-undecided
returns-clause-undecided c = begins_undecided

pub returns-clause-few : goal.returns-clause-few
returns-clause-few c = begins_within_image

pub returns-clause-redirected : goal.returns-clause-redirected
returns-clause-redirected c = hands_on_redirected

pub returns-clause-ends : goal.returns-clause-ends
returns-clause-ends c = ends_as_said
