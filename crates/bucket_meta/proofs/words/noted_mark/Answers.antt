-- Three bits are written, and then the fingerprint.
use Rattle.std.proofs.Common.{rules}
use Rattle.bucket_meta.proofs.words.noted_mark.Goals as goal

pub returns : goal.returns
returns c = search rules
