-- The power word stands behind the counter.
use Rattle.std.proofs.Common.{arith}
use Rattle.image_layout.proofs.shape.Geometry.power_word.Goals as goal

pub returns-clause-is : goal.returns-clause-is
returns-clause-is c = omega arith
