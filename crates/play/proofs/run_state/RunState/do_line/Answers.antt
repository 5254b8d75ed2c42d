-- By the rules that all proofs share.
use Rattle.std.proofs.Common.{rules}
use Rattle.play.proofs.run_state.RunState.do_line.Goals as goal

pub returns-in-Until : goal.returns-in-Until
returns-in-Until c = search rules
