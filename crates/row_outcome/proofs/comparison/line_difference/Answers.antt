-- By the rules that all proofs share.
use Rattle.std.proofs.Common.{rules}
use Rattle.row_outcome.proofs.comparison.line_difference.Goals as goal

pub returns-then-eq : goal.returns-then-eq
returns-then-eq c = search rules
