-- By computing.
use Rattle.std.proofs.Common.{refl}
use Rattle.outside.proofs.memory.fuse.FusesGates.make.Goals as goal

pub returns-clause-left : goal.returns-clause-left
returns-clause-left c = refl
