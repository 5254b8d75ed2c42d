-- Words that this crate writes, and that such a word and its head determine each other.
use Rattle.std.specs.Prelude.{◌≡◌, ℕ}
use Rattle.word_bits.specs.Bits.{bits}
use Rattle.segment_head.specs.declared.Head.{Head}
use Rattle.segment_head.specs.HeadWord.{spare_from, spare_bits}
use Rattle.segment_head.specs.Head.{IsHeadOf}

-- bits 24 to 31, which no field has
abbrev pub spare_in : ℕ → ℕ
spare_in h1 = bits spare_from spare_bits h1

-- heads that are those of the same word are the same head
abbrev pub WordGivesHead : Type 0
WordGivesHead = (a b : Head) (h1 : ℕ) → IsHeadOf a h1 → IsHeadOf b h1 → a ≡ b

-- words that have the same head, and no spare bit, are the same word
abbrev pub HeadGivesWord : Type 0
HeadGivesWord = (head : Head) (v w : ℕ) → spare_in v ≡ 0 → spare_in w ≡ 0 → IsHeadOf head v → IsHeadOf head w → v ≡ w
