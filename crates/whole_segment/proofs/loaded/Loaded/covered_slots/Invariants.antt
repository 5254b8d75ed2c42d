-- The slots before this one are looked at.
use Rattle.sound_image.specs.Records.{key_hash}
use Rattle.whole_segment.specs.Records.{first_in, key_in, IsCovered}
use Rattle.whole_segment.proofs.marking.Sets.{IsSetBelow}
use Rattle.whole_segment.proofs.loaded.Loaded.covered_slots.Given as goal

abbrev pub invariant-loop-slot : goal.invariant-loop-slot
invariant-loop-slot l = IsSetBelow (IsCovered (first_in l.self) (key_in l.self) (key_hash l.geometry) l.depth l.pattern l.bucket) l.slot l.slots
