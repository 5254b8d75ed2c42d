-- Each state has its number.
use Rattle.std.proofs.Common.{rules}
use Rattle.segment_head.proofs.state_number.Goals as goal

pub returns-in-Free-clause-value : goal.returns-in-Free-clause-value
returns-in-Free-clause-value c = search rules

pub returns-in-Normal-clause-value : goal.returns-in-Normal-clause-value
returns-in-Normal-clause-value c = search rules
