-- By the rules that all proofs share.
use Rattle.std.proofs.Common.{rules}
use Rattle.image_layout.proofs.shape.Geometry.head_at.Goals as goal

pub returns-clause-is : goal.returns-clause-is
returns-clause-is c = search rules
