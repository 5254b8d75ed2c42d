-- A quotient by its bounds.
use Rattle.segment_table.proofs.frames.SideEntries.{side_entry}
use Rattle.segment_table.proofs.laws.side_entries_stand_in_a_row.Goals as goal

pub returns : goal.returns
returns c = side_entry
