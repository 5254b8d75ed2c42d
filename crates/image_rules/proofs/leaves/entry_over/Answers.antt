-- The leaves over an entry are as many as the greatest depth has more bits for.
use Rattle.std.proofs.Common.{arith, slice_index}
use Rattle.image_rules.proofs.covered.Parts.{root_fits, entry_below}
use Rattle.image_rules.proofs.leaves.entry_over.Goals as goal

pub overflow_sub-depth : goal.overflow_sub-depth
overflow_sub-depth c = omega (arith, c.depth.ensures.is, root_fits c.args.geometry.now (slice_index c.args.words.now) c.requires.numbered)

pub entry_at-requires-clause-depth : goal.entry_at-requires-clause-depth
entry_at-requires-clause-depth c = root_fits c.args.geometry.now (slice_index c.args.words.now) c.requires.numbered

pub entry_at-requires-clause-index : goal.entry_at-requires-clause-index
entry_at-requires-clause-index c =
    entry_below c.args.geometry.now (slice_index c.args.words.now) c.requires.numbered c.depth.result c.depth.ensures.is c.args.leaf c.requires.leaf
