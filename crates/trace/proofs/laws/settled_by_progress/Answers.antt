-- The laws are lemmas.
use Rattle.trace.proofs.Fenced.{settled_is, settled_only}
use Rattle.trace.proofs.laws.settled_by_progress.Goals as goal

pub returns : goal.returns
returns c = record { is_one = settled_is; only = settled_only }
