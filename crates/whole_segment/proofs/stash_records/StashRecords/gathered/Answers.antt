-- By the rules that all proofs share.
use Rattle.std.proofs.Common.{rules}
use Rattle.whole_segment.proofs.stash_records.StashRecords.gathered.Goals as goal

pub extend-requires-2-clause-room : goal.extend-requires-2-clause-room
extend-requires-2-clause-room c = search rules

pub returns-clause-are : goal.returns-clause-are
returns-clause-are c = search rules
