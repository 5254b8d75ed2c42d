-- By the rules that all proofs share.
use Rattle.std.proofs.Common.{rules}
use Rattle.dash_top.proofs.top.finish.Goals as goal

pub returns-in-Err-clause-all : goal.returns-in-Err-clause-all
returns-in-Err-clause-all g c = search rules
