-- The entry leads at once to who claims its hashes.
use Rattle.segment_table.proofs.StoreLaws.{names_claimer}
use Rattle.segment_table.proofs.laws.splits_name_claimers.Goals as goal

pub returns : goal.returns
returns c = names_claimer
