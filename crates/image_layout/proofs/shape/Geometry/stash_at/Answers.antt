-- A stash bucket stands behind the homes.
use Rattle.std.proofs.Common.{arith}
use Rattle.image_layout.proofs.shape.Geometry.stash_at.Goals as goal

pub returns-clause-is : goal.returns-clause-is
returns-clause-is c = omega arith
