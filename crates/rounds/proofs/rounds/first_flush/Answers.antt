-- By the rules that all proofs share.
use Rattle.std.proofs.Common.{rules}
use Rattle.rounds.proofs.rounds.first_flush.Goals as goal

pub returns-then-count-gt0 : goal.returns-then-count-gt0
returns-then-count-gt0 c = search rules
