-- A live segment that is the first of its depth and pattern raises the leaves that it covers; another one changes nothing.
use Rattle.std.proofs.Common.{ℕ, ◌+◌, ◌^◌, ◌∙◌, ap, sym, subst, refl, slice_index}
use Rattle.sound_image.specs.Segments.{frame_of}
use Rattle.image_rules.specs.Leaves.{AreRaised}
use Rattle.image_rules.proofs.covered.LeafOwners.{live_deepest, twin_deepest}
use Rattle.image_rules.proofs.leaves.add_segment.Goals as goal

pub raise-requires-clause-leaves : goal.raise-requires-clause-leaves
raise-requires-clause-leaves c = c.requires.leaves ∙ ap (λ (n : ℕ). 2 ^ n) (sym c.depth.ensures.is)

pub returns-then-not-see_segment-clause-seen : goal.returns-then-not-see_segment-clause-seen
returns-then-not-see_segment-clause-seen c = c.see_segment.ensures.seen

pub returns-else-not-see_segment-clause-seen : goal.returns-else-not-see_segment-clause-seen
returns-else-not-see_segment-clause-seen c = c.see_segment.ensures.seen

pub returns-then-not-see_segment-clause-deepest : goal.returns-then-not-see_segment-clause-deepest
returns-then-not-see_segment-clause-deepest c =
    let prefix = c.prefix_of-prefix.result in
    let live = c.if-not-is_live.ensures.0 refl in
    let up = subst (λ (g : ℕ). AreRaised g prefix (prefix.depth + 1) c.args.leaves.now c.raise.new.leaves) c.depth.ensures.is c.raise.ensures in
    live_deepest (frame_of c.args.geometry.now (slice_index c.args.words.now)) c.args.geometry.now.depth c.args.s prefix c.requires.slot live
    c.prefix_of-prefix.ensures.is c.requires.numbered.in_range.depth c.prefix_of-prefix.ensures.depth c.prefix_of-prefix.ensures.pattern
    c.args.leaves.now c.raise.new.leaves up c.requires.deepest

pub returns-else-not-see_segment-clause-deepest : goal.returns-else-not-see_segment-clause-deepest
returns-else-not-see_segment-clause-deepest c =
    twin_deepest (frame_of c.args.geometry.now (slice_index c.args.words.now)) c.args.geometry.now.depth c.args.s c.requires.slot
    (c.if-not-see_segment.ensures.twin.0 refl) c.args.leaves.now c.requires.deepest
