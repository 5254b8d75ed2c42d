-- One more, in 8 bits.
use Rattle.std.proofs.Common.{rules}
use Rattle.segment_head.proofs.split.side_depth_field.Goals as goal

pub returns : goal.returns
returns c = search rules
