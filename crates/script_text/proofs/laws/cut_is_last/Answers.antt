use Rattle.script_text.proofs.Ordered.{none_behind_cut}
use Rattle.script_text.proofs.laws.cut_is_last.Goals as goal

pub returns : goal.returns
returns c = none_behind_cut
