-- The laws are lemmas.
use Rattle.trace.proofs.Moments.{since_more}
use Rattle.trace.proofs.Media.{may_more, newest_may, settled_may}
use Rattle.trace.proofs.laws.events_add.Goals as goal

pub returns : goal.returns
returns c = record { since = since_more; added = may_more; newest = newest_may; settled = settled_may }
