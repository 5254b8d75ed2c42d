-- The fields are those of the 0-side.
use Rattle.std.proofs.Common.{rules}
use Rattle.segment_head.proofs.split.zero_side_head.Goals as goal

pub returns : goal.returns
returns c = search rules
