use Rattle.std.proofs.Common.{rules}
-- The entry lies in its area, and the areas end before the first segment.
use Rattle.std.proofs.Common.{arith}
use Rattle.image_layout.proofs.Areas.{entry_before}
use Rattle.image_layout.proofs.shape.Geometry.entry_at.Goals as goal

pub returns-clause-within : goal.returns-clause-within
returns-clause-within c = omega (arith, entry_before c.args.self.now c.args.e c.args.i c.requires.depth c.requires.index)

pub returns-clause-below : goal.returns-clause-below
returns-clause-below c = omega (arith, entry_before c.args.self.now c.args.e c.args.i c.requires.depth c.requires.index)

pub returns-clause-is : goal.returns-clause-is
returns-clause-is c = search rules
