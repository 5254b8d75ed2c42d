use Rattle.std.proofs.Common.{◌-◌, slice_index}
use Rattle.sound_image.specs.Segments.{frame_of, depth_at, LeadsToOwner}
use Rattle.image_rules.proofs.directory.leads.Given as goal

abbrev pub invariant-loop-side : goal.invariant-loop-side
invariant-loop-side l =
    record {
      forth : LeadsToOwner (frame_of l.geometry (slice_index l.words)) l.hash l.s → LeadsToOwner (frame_of l.geometry (slice_index l.words)) l.hash l.fn.start;
      back : LeadsToOwner (frame_of l.geometry (slice_index l.words)) l.hash l.fn.start → LeadsToOwner (frame_of l.geometry (slice_index l.words)) l.hash l.s;
    }

abbrev pub decreases-loop-side : goal.decreases-loop-side
decreases-loop-side l = 256 - depth_at (frame_of l.geometry (slice_index l.words)) l.s
