-- The segment claimed no hash of the half that it gives up.
use Rattle.segment_table.proofs.StoreLaws.{ends_split}
use Rattle.segment_table.proofs.laws.splits_end.Goals as goal

pub returns : goal.returns
returns c = ends_split
