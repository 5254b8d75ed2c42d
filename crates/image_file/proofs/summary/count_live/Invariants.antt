use Rattle.std.proofs.Common.{◌≡◌, ◌≤◌, length, slice_index}
use Rattle.sound_image.specs.Segments.{frame_of}
use Rattle.image_file.specs.Pairs.{live_slots}
use Rattle.image_file.proofs.summary.count_live.Given as goal

abbrev pub invariant-loop-slot : goal.invariant-loop-slot
invariant-loop-slot l =
    record {
      counted : l.live ≡ length (live_slots (frame_of l.geometry (slice_index l.words)) l.slot);
      few : l.live ≤ l.slot;
    }
