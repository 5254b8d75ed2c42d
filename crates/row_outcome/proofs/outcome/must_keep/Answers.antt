-- By the rules that all proofs share.
use Rattle.std.proofs.Common.{rules}
use Rattle.row_outcome.proofs.outcome.must_keep.Goals as goal

pub returns-else-eq : goal.returns-else-eq
returns-else-eq c = search rules
