-- The first bytes are no more than were asked for.
use Rattle.std.proofs.Common.{arith}
use Rattle.std.proofs.lemmas.List.{length-take}
use Rattle.outside.proofs.memory.store.MemStoreStore.read_all.Goals as goal

pub returns-clause-bound : goal.returns-clause-bound
returns-clause-bound c = rw (c.in_ok-front_of.ensures, length-take) (omega arith)
