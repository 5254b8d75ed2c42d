-- Each state has its number, and a byte above 3 is none of them.
use Rattle.std.proofs.Common.{rules}
use Rattle.segment_head.proofs.Head.read.Goals as goal

pub returns-clause-some : goal.returns-clause-some
returns-clause-some c = search rules

pub returns-clause-refused : goal.returns-clause-refused
returns-clause-refused c = search rules
