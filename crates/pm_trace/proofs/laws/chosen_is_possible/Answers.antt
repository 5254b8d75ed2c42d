-- The law is a lemma.
use Rattle.pm_trace.proofs.Chosen.{kept_is_possible}
use Rattle.pm_trace.proofs.laws.chosen_is_possible.Goals as goal

pub returns : goal.returns
returns c = kept_is_possible
