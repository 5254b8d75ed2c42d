use Rattle.script_text.proofs.Ordered.{all_behind_close}
use Rattle.script_text.proofs.laws.close_ends_the_callers.Goals as goal

pub returns : goal.returns
returns c = all_behind_close
