-- The slots before this one are gathered.
use Rattle.std.proofs.Common.{◌≡◌, ◌+◌, ◌*◌, ◌≤◌, ◌++◌, length}
use Rattle.std.specs.Prelude.{All}
use Rattle.sound_image.specs.Records.{key_hash}
use Rattle.stash.specs.Segment.{IsStashed}
use Rattle.whole_segment.specs.Records.{first_in, key_in}
use Rattle.whole_segment.specs.Notes.{entries_below}
use Rattle.whole_segment.specs.Gathered.{records_of}
use Rattle.whole_segment.proofs.stash_records.StashRecords.extend.Given as goal

abbrev pub invariant-loop-slot : goal.invariant-loop-slot
invariant-loop-slot l = record {
  more : records_of l.self ≡ records_of l.fn.self ++ entries_below (first_in l.loaded) (key_in l.loaded) (key_hash l.geometry) l.index l.slot;
  most : length (records_of l.self) ≤ 14 * l.index + l.slot;
  stashed : All IsStashed (records_of l.self);
}
