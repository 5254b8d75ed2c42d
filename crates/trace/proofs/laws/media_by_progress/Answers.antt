-- The law is a lemma.
use Rattle.trace.proofs.Media.{may_is_had}
use Rattle.trace.proofs.laws.media_by_progress.Goals as goal

pub returns : goal.returns
returns c = may_is_had
