-- Bit by bit.
use Rattle.whole_segment.proofs.marking.MarkHalves.{are_halves}
use Rattle.whole_segment.proofs.laws.marks_are_halves.Goals as goal

pub returns : goal.returns
returns c = are_halves
