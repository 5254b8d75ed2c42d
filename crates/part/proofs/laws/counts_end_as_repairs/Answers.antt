-- By the law of one part after another.
use Rattle.part.proofs.Counting.{count_ends_as_repair, first_ends_as_repair, three_end_as_repair}
use Rattle.part.proofs.laws.counts_end_as_repairs.Goals as goal

pub returns-clause-count : goal.returns-clause-count
returns-clause-count c = count_ends_as_repair c.counts_are_parts.ensures.causes

pub returns-clause-first : goal.returns-clause-first
returns-clause-first c = first_ends_as_repair c.first_counts_are_parts.ensures.causes

pub returns-clause-three : goal.returns-clause-three
returns-clause-three c = three_end_as_repair (first_ends_as_repair c.first_counts_are_parts.ensures.causes) (count_ends_as_repair c.counts_are_parts.ensures.causes)
