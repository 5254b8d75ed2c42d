-- A word of a bucket is one of the words.
use Rattle.std.proofs.Common.{◌+◌, ℕ, ap, slice_index}
use Rattle.image_rules.proofs.Within.{in_bucket}
use Rattle.image_rules.proofs.notes.meta_in.Goals as goal

pub bounds-words-bucket_word : goal.bounds-words-bucket_word
bounds-words-bucket_word c = in_bucket _ _ _ _ c.requires.whole c.bucket_word.ensures.within c.requires.word

pub returns : goal.returns
returns c = ap (λ (n : ℕ). slice_index c.args.words.now (n + c.args.i)) c.bucket_word.ensures.is
