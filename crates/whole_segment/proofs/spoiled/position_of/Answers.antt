-- By the rules that all proofs share.
use Rattle.std.proofs.Common.{rules}
use Rattle.whole_segment.proofs.spoiled.position_of.Goals as goal

pub returns-then-bucket-eq-HOMES-clause-is : goal.returns-then-bucket-eq-HOMES-clause-is
returns-then-bucket-eq-HOMES-clause-is c = search rules

pub returns-else-bucket-eq-SECOND_STASH-clause-is : goal.returns-else-bucket-eq-SECOND_STASH-clause-is
returns-else-bucket-eq-SECOND_STASH-clause-is c = search rules
