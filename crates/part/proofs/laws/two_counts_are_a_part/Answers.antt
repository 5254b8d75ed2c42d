-- By the law of one part after another.
use Rattle.part.proofs.Counting.{two_are_a_part, two_end_by_cause}
use Rattle.part.proofs.laws.two_counts_are_a_part.Goals as goal

pub returns-clause-part : goal.returns-clause-part
returns-clause-part c = two_are_a_part c.first_counts_are_parts.ensures.part c.first_counts_are_parts.ensures.causes c.counts_are_parts.ensures.part

pub returns-clause-causes : goal.returns-clause-causes
returns-clause-causes c = two_end_by_cause c.first_counts_are_parts.ensures.causes c.counts_are_parts.ensures.causes
