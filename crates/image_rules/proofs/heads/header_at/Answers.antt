-- The header word of a segment is one of the words.
use Rattle.std.proofs.Common.{◌<◌, ℕ, ap, sym, subst, slice_index}
use Rattle.image_rules.proofs.heads.header_at.Goals as goal

pub bounds-words-header_word : goal.bounds-words-header_word
bounds-words-header_word c = subst (λ (n : ℕ). c.header_word.result < n) (sym c.requires.whole) c.header_word.ensures.within

pub returns : goal.returns
returns c = ap (slice_index c.args.words.now) c.header_word.ensures.is
