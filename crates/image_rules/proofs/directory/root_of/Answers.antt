-- Rule 1 says that the directory is no deeper than the image allows.
use Rattle.std.proofs.Common.{arith, slice_index}
use Rattle.image_rules.proofs.Within.{in_front}
use Rattle.image_rules.proofs.covered.Parts.{root_fits}
use Rattle.image_rules.proofs.directory.root_of.Goals as goal

pub bounds-words : goal.bounds-words
bounds-words c = in_front c.args.geometry.now _ _ c.requires.whole (omega arith)

pub returns-clause-within : goal.returns-clause-within
returns-clause-within c = root_fits c.args.geometry.now (slice_index c.args.words.now) c.requires.numbered

pub returns-clause-most : goal.returns-clause-most
returns-clause-most c =
    omega (arith, root_fits c.args.geometry.now (slice_index c.args.words.now) c.requires.numbered, c.requires.numbered.in_range.depth)
