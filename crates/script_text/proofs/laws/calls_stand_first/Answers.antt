use Rattle.script_text.proofs.Ordered.{no_calls_behind_run, no_calls_behind_close}
use Rattle.script_text.proofs.laws.calls_stand_first.Goals as goal

pub returns-clause-running : goal.returns-clause-running
returns-clause-running c = no_calls_behind_run

pub returns-clause-closing : goal.returns-clause-closing
returns-clause-closing c = no_calls_behind_close
