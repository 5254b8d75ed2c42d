-- A bit of a word is set or cleared alone, and a bit of some bits of a word is a bit of the word.
use Rattle.std.proofs.Common.{◌≡◌, ◌≢◌, ℕ, ◌+◌, ◌*◌, ◌/◌, ◌%◌, ◌^◌, ◌<◌, ap, cond, sym, ◌∙◌, bit_and, bit_or}
use Rattle.std.specs.Int.{bit_at, bit_not, w64}
use Rattle.std.proofs.lemmas.Bool.{lt-ltb}
use Rattle.std.proofs.lemmas.Nat.{one_shl, shr_split, shr-shr}
use Rattle.std.proofs.lemmas.Nat.Bits.{bit_at_cat_low, bit_at_set_same, bit_at_set_other, bit_at_clear_same, bit_at_clear_other}
use Rattle.word_bits.specs.Bits.{bits, bit, mask}

pub bit_of_bits : (low count i w : ℕ) → i < count → bit i (bits low count w) ≡ bit (low + i) w
bit_of_bits low count i w within =
    sym (bit_at_cat_low (w / 2 ^ low / 2 ^ count) count (w / 2 ^ low % 2 ^ count) i within)
    ∙ ap (λ n. bit_at n i) (shr_split (w / 2 ^ low) count)
    ∙ ap (λ n. n % 2) (shr-shr w low i)

mask_is : (i : ℕ) → i < 64 → mask i ≡ 1 * 2 ^ i % 2 ^ 64
mask_is i within = ap (λ b. cond b (2 ^ i) 0) (lt-ltb i 64 within) ∙ sym (one_shl i 64 within)

pub set_same : (n i : ℕ) → i < 64 → bit i (bit_or n (mask i)) ≡ 1
set_same n i within = ap (λ m. bit i (bit_or n m)) (mask_is i within) ∙ bit_at_set_same w64 n i within

pub set_other : (n i j : ℕ) → i < 64 → j ≢ i → bit j (bit_or n (mask i)) ≡ bit j n
set_other n i j within other = ap (λ m. bit j (bit_or n m)) (mask_is i within) ∙ bit_at_set_other w64 n i within j other

pub clear_same : (n i : ℕ) → i < 64 → bit i (bit_and n (bit_not w64 (mask i))) ≡ 0
clear_same n i within = ap (λ m. bit i (bit_and n (bit_not w64 m))) (mask_is i within) ∙ bit_at_clear_same w64 n i within

pub clear_other : (n i j : ℕ) → i < 64 → j < 64 → j ≢ i → bit j (bit_and n (bit_not w64 (mask i))) ≡ bit j n
clear_other n i j within near other = ap (λ m. bit j (bit_and n (bit_not w64 m))) (mask_is i within) ∙ bit_at_clear_other w64 n i within j near other
