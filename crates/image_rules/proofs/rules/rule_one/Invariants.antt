use Rattle.std.proofs.Common.{ℕ, ◌<◌, slice_index}
use Rattle.sound_image.specs.Segments.{frame_of}
use Rattle.sound_image.specs.Directory.{HeadInRange, LinkInRange}
use Rattle.image_rules.proofs.rules.rule_one.Given as goal

abbrev pub invariant-loop-s : goal.invariant-loop-s
invariant-loop-s l =
    record {
      heads : (t : ℕ) → t < l.s → HeadInRange (frame_of l.geometry (slice_index l.words)) l.geometry.depth t;
      links : (t : ℕ) → t < l.s → LinkInRange (frame_of l.geometry (slice_index l.words)) t;
    }
