-- By the rules that all proofs share.
use Rattle.std.proofs.Common.{rules}
use Rattle.script_text.proofs.phase.Phase.may_run.Goals as goal

pub returns-in-Play-Closing : goal.returns-in-Play-Closing
returns-in-Play-Closing c = search rules
