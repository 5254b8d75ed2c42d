-- By the rules that all proofs share.
use Rattle.std.proofs.Common.{rules}
use Rattle.bucket_meta.proofs.words.without_lock.Goals as goal

pub returns : goal.returns
returns c = search rules
