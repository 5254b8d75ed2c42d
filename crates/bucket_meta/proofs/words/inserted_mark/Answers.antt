-- One bit is set, and another cleared.
use Rattle.std.proofs.Common.{rules}
use Rattle.bucket_meta.proofs.words.inserted_mark.Goals as goal

pub returns : goal.returns
returns c = search rules
