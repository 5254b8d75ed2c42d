-- The prefix of the segment is noted, and was before exactly where a segment before it has it.
use Rattle.std.proofs.Common.{◌+◌, sym, subst, slice_index}
use Rattle.sound_image.specs.Segments.{frame_of}
use Rattle.image_rules.specs.Leaves.{AreSeen}
use Rattle.image_rules.proofs.covered.LeafOwners.{live_seen, seen_twin, twin_seen}
use Rattle.image_rules.proofs.leaves.see_segment.Goals as goal

pub returns-clause-twin : goal.returns-clause-twin
returns-clause-twin c = (
  (λ seen.
      seen_twin (frame_of c.args.geometry.now (slice_index c.args.words.now)) c.args.geometry.now.depth c.args.s c.prefix_of-prefix.result c.requires.slot
      c.requires.live c.prefix_of-prefix.ensures.is c.requires.numbered.in_range.depth c.prefix_of-prefix.ensures.depth c.prefix_of-prefix.ensures.pattern
      c.args.nodes.now c.see.ensures.within c.requires.seen (c.see.ensures.seen.0 seen)),
  (λ twin. c.see.ensures.seen.1
      (twin_seen (frame_of c.args.geometry.now (slice_index c.args.words.now)) c.args.geometry.now.depth c.args.s c.prefix_of-prefix.result c.requires.slot
      c.requires.live c.prefix_of-prefix.ensures.is c.requires.numbered.in_range.depth c.prefix_of-prefix.ensures.depth c.prefix_of-prefix.ensures.pattern
      c.args.nodes.now c.see.ensures.within c.requires.seen twin)),
)

pub returns-clause-seen : goal.returns-clause-seen
returns-clause-seen c =
    subst (AreSeen (frame_of c.args.geometry.now (slice_index c.args.words.now)) c.args.geometry.now.depth (c.args.s + 1)) (sym c.see.ensures.noted)
    (live_seen (frame_of c.args.geometry.now (slice_index c.args.words.now)) c.args.geometry.now.depth c.args.s c.prefix_of-prefix.result c.requires.slot
    c.requires.live c.prefix_of-prefix.ensures.is c.requires.numbered.in_range.depth c.prefix_of-prefix.ensures.depth c.prefix_of-prefix.ensures.pattern
    c.args.nodes.now c.see.ensures.within c.requires.seen)
