-- The slot is put into the set, and the others stay.
use Rattle.std.proofs.Common.{rules}
use Rattle.bucket_meta.proofs.metadata.Meta.place.Goals as goal

pub returns-clause-other_alloc : goal.returns-clause-other_alloc
returns-clause-other_alloc c = search rules

pub returns-clause-member : goal.returns-clause-member
returns-clause-member c = search rules

pub returns-clause-finger : goal.returns-clause-finger
returns-clause-finger c = search rules
