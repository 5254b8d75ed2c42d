-- The words end behind the last segment.
use Rattle.std.proofs.Common.{rules}
use Rattle.image_layout.proofs.shape.Geometry.words.Goals as goal

pub returns-clause-is : goal.returns-clause-is
returns-clause-is c = search rules
