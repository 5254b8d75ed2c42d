use Rattle.std.proofs.Common.{ℕ, ◌<◌, slice_index}
use Rattle.sound_image.specs.Segments.{frame_of}
use Rattle.sound_image.specs.Directory.{EntryLeads}
use Rattle.image_rules.proofs.directory.rule_three.Given as goal

abbrev pub invariant-loop-i : goal.invariant-loop-i
invariant-loop-i l = (k : ℕ) → k < l.i → EntryLeads (frame_of l.geometry (slice_index l.words)) k
