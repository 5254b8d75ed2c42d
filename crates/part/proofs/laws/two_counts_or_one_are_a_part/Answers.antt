-- By the laws of either of two parts, and of a part under other names.
use Rattle.part.proofs.Counting.{two_or_one_are_a_part, two_or_one_end_by_cause}
use Rattle.part.proofs.laws.two_counts_or_one_are_a_part.Goals as goal

pub returns-clause-part : goal.returns-clause-part
returns-clause-part c = two_or_one_are_a_part c.counts_are_parts.ensures.part c.two_counts_are_a_part.ensures.part

pub returns-clause-causes : goal.returns-clause-causes
returns-clause-causes c = two_or_one_end_by_cause c.counts_are_parts.ensures.causes c.two_counts_are_a_part.ensures.causes
