-- By the rules that all proofs share.
use Rattle.std.proofs.Common.{rules}
use Rattle.segment_head.proofs.split.side_pattern_of.Goals as goal

pub returns-clause-is : goal.returns-clause-is
returns-clause-is c = search rules
