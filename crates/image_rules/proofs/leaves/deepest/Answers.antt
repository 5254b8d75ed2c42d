-- No segment at first, and at last each.
use Rattle.std.proofs.Common.{◌≡◌, ℕ, ◌+◌, ◌^◌, ◌∙◌, ap, subst, arith, slice_index}
use Rattle.sound_image.specs.Segments.{frame_of}
use Rattle.image_rules.specs.Leaves.{AreDeepest}
use Rattle.image_rules.proofs.covered.LeafOwners.{zero_length, all_zero, none_deepest, none_seen}
use Rattle.image_rules.proofs.leaves.deepest.Goals as goal

pub loop-s-init : goal.loop-s-init
loop-s-init c =
    let frame = frame_of c.args.geometry.now (slice_index c.args.words.now) in
    let no_leaf = c.in_ok-leaves.ensures.items_if_clones_equal (λ y same. same) in
    let no_node = c.in_ok-nodes.ensures.items_if_clones_equal (λ y same. same) in
    record {
      leaves = zero_length c.in_ok-leaves.leaves.items _ no_leaf ∙ c.entries_of.ensures.is ∙ ap (λ (n : ℕ). 2 ^ n) c.depth-greatest.ensures.is;
      nodes = zero_length c.in_ok-nodes.nodes.items _ no_node ∙ c.entries_of-2.ensures.is ∙ ap (λ (n : ℕ). 2 ^ (n + 1)) c.depth-greatest.ensures.is;
      deepest = none_deepest frame c.args.geometry.now.depth c.in_ok-leaves.leaves.items (all_zero c.in_ok-leaves.leaves.items _ no_leaf);
      seen = none_seen frame c.args.geometry.now.depth c.in_ok-nodes.nodes.items (all_zero c.in_ok-nodes.nodes.items _ no_node);
    }

pub returns-clause-is : goal.returns-clause-is
returns-clause-is c =
    let last : c.loop-s.s ≡ c.args.geometry.now.segments = omega (arith, c.loop-s-test.false, c.segments-s-end.ensures.is, c.loop-s.auto.s-end) in
    subst (λ (n : ℕ). AreDeepest (frame_of c.args.geometry.now (slice_index c.args.words.now)) c.args.geometry.now.depth n c.loop-s.leaves.items) last
    c.loop-s.invariant.deepest
