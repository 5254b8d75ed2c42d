-- The records that were gathered from the stash, as a list.
use Rattle.std.specs.Prelude.{List, take}
use Rattle.stash.specs.Segment.{Stashed}
use Rattle.whole_segment.specs.declared.stash_records.StashRecords.{StashRecords}

abbrev pub records_of : StashRecords → List Stashed
records_of gathered = take gathered.count gathered.records
