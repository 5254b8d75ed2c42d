-- No segment with a ready side has another link.
use Rattle.segment_table.proofs.StoreLaws.{links}
use Rattle.segment_table.proofs.laws.links_are_stored.Goals as goal

pub returns : goal.returns
returns c = links
