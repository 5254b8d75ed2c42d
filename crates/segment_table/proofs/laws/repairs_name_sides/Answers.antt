-- The way from the entry passed the segment, and went on to its side.
use Rattle.segment_table.proofs.StoreLaws.{names_side}
use Rattle.segment_table.proofs.laws.repairs_name_sides.Goals as goal

pub returns : goal.returns
returns c = names_side
