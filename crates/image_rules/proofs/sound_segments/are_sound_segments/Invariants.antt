use Rattle.std.proofs.Common.{slice_index}
use Rattle.image_rules.specs.Repairs.{AreSoundSegments}
use Rattle.image_rules.proofs.sound_segments.are_sound_segments.Given as goal

abbrev pub invariant-loop-s : goal.invariant-loop-s
invariant-loop-s l = AreSoundSegments l.geometry (slice_index l.words) l.s
