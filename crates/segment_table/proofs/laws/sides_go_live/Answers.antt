-- Claims move from the segment to its side.
use Rattle.segment_table.proofs.StoreLaws.{goes_live}
use Rattle.segment_table.proofs.laws.sides_go_live.Goals as goal

pub returns : goal.returns
returns c = goes_live
