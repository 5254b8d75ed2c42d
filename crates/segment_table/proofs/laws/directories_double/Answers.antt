-- Each hash has an entry that names what its entry named.
use Rattle.segment_table.proofs.StoreLaws.{doubles}
use Rattle.segment_table.proofs.laws.directories_double.Goals as goal

pub returns : goal.returns
returns c = doubles
