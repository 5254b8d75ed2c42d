-- By computing.
use Rattle.std.proofs.Common.{refl}
use Rattle.write_op.proofs.op.WriteOp.kept.Goals as goal

pub returns : goal.returns
returns c = refl
