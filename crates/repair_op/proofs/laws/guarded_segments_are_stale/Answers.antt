-- By what is held, and what is known of its header.
use Rattle.repair_op.proofs.Holding.{guarded_is_stale}
use Rattle.repair_op.proofs.laws.guarded_segments_are_stale.Goals as goal

pub returns : goal.returns
returns c = guarded_is_stale
