-- The law is a lemma.
use Rattle.restart_op.proofs.restarts.Cuts.{restart_keeps}
use Rattle.restart_op.proofs.laws.restart_keeps.Goals as goal

pub returns : goal.returns
returns c = restart_keeps
