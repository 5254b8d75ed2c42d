-- Twice as much and one more, in 32 bits.
use Rattle.std.proofs.Common.{rules}
use Rattle.segment_head.proofs.split.one_pattern_field.Goals as goal

pub returns : goal.returns
returns c = search rules
