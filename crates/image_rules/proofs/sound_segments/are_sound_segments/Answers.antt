-- One segment more.
use Rattle.std.proofs.Common.{refl, below_more}
use Rattle.image_rules.proofs.sound_segments.are_sound_segments.Goals as goal

pub loop-s-preserved : goal.loop-s-preserved
loop-s-preserved c = below_more _ _ c.loop-s.invariant (c.if-not-is_sound_segment.ensures refl)
