-- Some bits of a word are 0 exactly where each of them is.
use Rattle.std.proofs.Common.{◌≡◌, ℕ, ◌+◌, ◌^◌, ◌<◌, ap, sym, ◌∙◌, arith}
use Rattle.std.proofs.lemmas.Nat.{pow_pos}
use Rattle.std.proofs.lemmas.Nat.Bits.{same_from_bits_below}
use Rattle.word_bits.specs.Bits.{bits, bit}
use Rattle.word_bits.proofs.OneBit.{bit_of_bits}

no_bit : (i : ℕ) → bit i 0 ≡ 0
no_bit i = omega (arith, pow_pos i)

pub zero_gives : (low count w i : ℕ) → bits low count w ≡ 0 → i < count → bit (low + i) w ≡ 0
zero_gives low count w i zero within = sym (bit_of_bits low count i w within) ∙ (ap (bit i) zero ∙ no_bit i)

pub each_gives : (low count w : ℕ) → bits low count w < 2 ^ count → ((i : ℕ) → i < count → bit (low + i) w ≡ 0) → bits low count w ≡ 0
each_gives low count w fits each =
    same_from_bits_below count (bits low count w) 0 fits (pow_pos count) (λ i within. bit_of_bits low count i w within ∙ (each i within ∙ sym (no_bit i)))
