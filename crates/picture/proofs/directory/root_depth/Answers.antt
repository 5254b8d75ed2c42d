-- The root depth of a sound image is at most the greatest one.
use Rattle.std.proofs.Common.{refl, arith}
use Rattle.picture.proofs.directory.root_depth.Goals as goal

pub returns-clause-fits : goal.returns-clause-fits
returns-clause-fits c = ((c.requires.sound.follows 1 8).one refl).root refl

pub returns-clause-most : goal.returns-clause-most
returns-clause-most c = let root = ((c.requires.sound.follows 1 8).one refl).root refl in omega (arith, root, c.requires.sound.in_range.depth)
