-- A bit of the metadata word says it.
use Rattle.std.proofs.Common.{rules}
use Rattle.bucket_meta.proofs.words.is_unused.Goals as goal

pub returns : goal.returns
returns c = search rules
