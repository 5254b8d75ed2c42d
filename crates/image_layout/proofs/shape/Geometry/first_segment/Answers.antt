-- The areas are a word less than the next power.
use Rattle.std.proofs.Common.{rules}
use Rattle.image_layout.proofs.shape.Geometry.first_segment.Goals as goal

pub returns-clause-is : goal.returns-clause-is
returns-clause-is c = search rules
