use Rattle.std.proofs.Common.{◌≡◌, ◌+◌, ◌^◌, length, slice_index}
use Rattle.sound_image.specs.Segments.{frame_of}
use Rattle.image_rules.specs.Leaves.{AreDeepest, AreSeen}
use Rattle.image_rules.proofs.leaves.deepest.Given as goal

abbrev pub invariant-loop-s : goal.invariant-loop-s
invariant-loop-s l =
    record {
      leaves : length l.leaves.items ≡ 2 ^ l.geometry.depth;
      nodes : length l.nodes.items ≡ 2 ^ (l.geometry.depth + 1);
      deepest : AreDeepest (frame_of l.geometry (slice_index l.words)) l.geometry.depth l.s l.leaves.items;
      seen : AreSeen (frame_of l.geometry (slice_index l.words)) l.geometry.depth l.s l.nodes.items;
    }
