-- By the rules that all proofs share.
use Rattle.std.proofs.Common.{rules}
use Rattle.rounds.proofs.rounds.flushing_want.Goals as goal

pub returns-then-i-count : goal.returns-then-i-count
returns-then-i-count c = search rules
