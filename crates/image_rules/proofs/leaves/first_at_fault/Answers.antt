-- One segment more that shares well.
use Rattle.std.proofs.Common.{◌∙◌, refl, below_more}
use Rattle.image_rules.proofs.leaves.first_at_fault.Goals as goal

pub loop-s-preserved : goal.loop-s-preserved
loop-s-preserved c =
    record {
      nodes = c.shares_well.auto.nodes ∙ c.loop-s.invariant.nodes;
      seen = c.shares_well.ensures.seen;
      share = below_more _ _ c.loop-s.invariant.share (c.if-not-shares_well.ensures.shares.0 refl);
    }
