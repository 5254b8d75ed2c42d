use Rattle.std.proofs.Common.{ℕ, ◌<◌, slice_index}
use Rattle.sound_image.specs.Segments.{frame_of}
use Rattle.sound_image.specs.Directory.{VersionIsPast}
use Rattle.image_rules.proofs.rules.rule_six.Given as goal

abbrev pub invariant-loop-s : goal.invariant-loop-s
invariant-loop-s l = (t : ℕ) → t < l.s → VersionIsPast (frame_of l.geometry (slice_index l.words)) t
