-- The region is the same, and there is no ready side before or after.
use Rattle.segment_table.proofs.StoreLaws.{begins_split}
use Rattle.segment_table.proofs.laws.splits_begin.Goals as goal

pub returns : goal.returns
returns c = begins_split
