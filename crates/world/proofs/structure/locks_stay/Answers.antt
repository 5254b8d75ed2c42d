use Rattle.world.proofs.moving.keeping.LocksKept.{keeps_locks}
use Rattle.world.proofs.structure.locks_stay.Goals as goal

pub returns : goal.returns
returns c = keeps_locks
