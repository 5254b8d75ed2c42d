-- Three fields are put above the version.
use Rattle.std.proofs.Common.{rules}
use Rattle.segment_head.proofs.word.header_of.Goals as goal

pub returns : goal.returns
returns c = search rules
