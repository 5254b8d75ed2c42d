-- The slot is taken out of both sets.
use Rattle.std.proofs.Common.{rules}
use Rattle.bucket_meta.proofs.metadata.Meta.clear.Goals as goal

pub returns-clause-member : goal.returns-clause-member
returns-clause-member c = search rules
