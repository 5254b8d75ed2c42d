-- By the rules that all proofs share.
use Rattle.std.proofs.Common.{rules}
use Rattle.pm_trace.proofs.picks.picked.Goals as goal

pub returns-then-takes_newest : goal.returns-then-takes_newest
returns-then-takes_newest c = search rules

pub returns-else-takes_newest : goal.returns-else-takes_newest
returns-else-takes_newest c = search rules
