-- The prefix of a live segment fits.
use Rattle.std.proofs.Common.{ℕ, ◌^◌, ◌<◌, ◌∙◌, ap, sym, subst, arith, slice_index}
use Rattle.segment_head.specs.HeadWord.{depth_in, pattern_in}
use Rattle.image_rules.proofs.covered.Owners.{live_depth, live_pattern}
use Rattle.image_rules.proofs.heads.prefix_of.Goals as goal

pub returns-clause-is : goal.returns-clause-is
returns-clause-is c =
    record {
      depth = c.prefix_in.ensures.depth ∙ ap depth_in c.header_at.ensures;
      pattern = c.prefix_in.ensures.pattern ∙ ap pattern_in c.header_at.ensures;
    }

pub returns-clause-depth : goal.returns-clause-depth
returns-clause-depth c =
    let same = c.prefix_in.ensures.depth ∙ ap depth_in c.header_at.ensures in
    omega (arith, same, live_depth c.args.geometry.now (slice_index c.args.words.now) c.requires.numbered c.args.s c.requires.slot c.requires.live)

pub returns-clause-most : goal.returns-clause-most
returns-clause-most c =
    let same = c.prefix_in.ensures.depth ∙ ap depth_in c.header_at.ensures in
    omega (
      arith,
      same,
      c.requires.numbered.in_range.depth,
      live_depth c.args.geometry.now (slice_index c.args.words.now) c.requires.numbered c.args.s c.requires.slot c.requires.live,
    )

pub returns-clause-pattern : goal.returns-clause-pattern
returns-clause-pattern c =
    let depth = c.prefix_in.ensures.depth ∙ ap depth_in c.header_at.ensures in
    let pattern = c.prefix_in.ensures.pattern ∙ ap pattern_in c.header_at.ensures in
    subst (λ (d : ℕ). c.prefix_in.result.pattern < 2 ^ d) (sym depth)
    (omega (arith, pattern, live_pattern c.args.geometry.now (slice_index c.args.words.now) c.requires.numbered c.args.s c.requires.slot c.requires.live))
