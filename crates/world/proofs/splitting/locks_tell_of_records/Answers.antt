-- A known record stands in the newest words, under a lock that is held.
use Rattle.world.proofs.holders.filling.Ordered.{in_order_by_locks}
use Rattle.world.proofs.splitting.locks_tell_of_records.Goals as goal

pub returns : goal.returns
returns c = in_order_by_locks
