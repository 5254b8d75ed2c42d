-- The region is the same, and there is no ready side before or after.
use Rattle.segment_table.proofs.StoreLaws.{drops_split}
use Rattle.segment_table.proofs.laws.splits_are_dropped.Goals as goal

pub returns : goal.returns
returns c = drops_split
