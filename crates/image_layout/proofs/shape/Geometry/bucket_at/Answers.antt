-- The buckets stand behind the header.
use Rattle.std.proofs.Common.{arith}
use Rattle.image_layout.proofs.shape.Geometry.bucket_at.Goals as goal

pub returns-clause-is : goal.returns-clause-is
returns-clause-is c = omega arith
