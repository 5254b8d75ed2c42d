-- The fields are those of the header.
use Rattle.std.proofs.Common.{rules}
use Rattle.segment_head.proofs.Head.write.Goals as goal

pub returns-clause-word : goal.returns-clause-word
returns-clause-word c = search rules
