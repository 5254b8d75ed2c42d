-- The word of the link is one of the words.
use Rattle.std.proofs.Common.{◌<◌, ℕ, sym, subst}
use Rattle.image_rules.proofs.heads.named_slot.Goals as goal

pub bounds-words-link_word : goal.bounds-words-link_word
bounds-words-link_word c = subst (λ (n : ℕ). c.link_word.result < n) (sym c.requires.whole) c.link_word.ensures.within
