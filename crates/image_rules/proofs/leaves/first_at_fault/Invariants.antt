use Rattle.std.proofs.Common.{◌≡◌, ◌+◌, ◌^◌, length, slice_index}
use Rattle.sound_image.specs.Segments.{frame_of}
use Rattle.image_rules.specs.Leaves.{AreSeen, ShareWellBelow}
use Rattle.image_rules.proofs.leaves.first_at_fault.Given as goal

abbrev pub invariant-loop-s : goal.invariant-loop-s
invariant-loop-s l =
    record {
      nodes : length l.nodes ≡ 2 ^ (l.geometry.depth + 1);
      seen : AreSeen (frame_of l.geometry (slice_index l.words)) l.geometry.depth l.s l.nodes;
      share : ShareWellBelow (frame_of l.geometry (slice_index l.words)) l.s;
    }
