-- One of four bits is set or cleared alone.
use Rattle.std.proofs.Common.{◌≡◌, ◌≢◌, ℕ, ◌-◌, ◌*◌, ◌%◌, ◌^◌, ◌<◌, sym, ◌∙◌, inl, inr, arith, bit_and, bit_or}
use Rattle.std.proofs.lemmas.Bool.{cases_lt}
use Rattle.std.proofs.lemmas.Nat.{one_shl, or_lt, and_le_l, pow_below}
use Rattle.std.proofs.lemmas.Nat.Bits.{bit_at_set_same, bit_at_set_other, bit_at_clear_same, bit_at_clear_other, bit_at_above}
use Rattle.std.specs.Int.{w8}
use Rattle.word_bits.specs.Bits.{bit}

pub set_same : (bits k : ℕ) → k < 8 → bit k (bit_or bits (1 * 2 ^ k % 256)) ≡ 1
set_same bits k within = bit_at_set_same w8 bits k within

pub set_other : (bits k i : ℕ) → k < 8 → i ≢ k → bit i (bit_or bits (1 * 2 ^ k % 256)) ≡ bit i bits
set_other bits k i within other = bit_at_set_other w8 bits k within i other

pub set_below : (bits k : ℕ) → bits < 2 ^ 4 → k < 4 → bit_or bits (1 * 2 ^ k % 256) < 2 ^ 4
set_below bits k four within =
    let power : 1 * 2 ^ k % 256 ≡ 2 ^ k = one_shl k 8 (omega arith) in
    or_lt 4 bits _ four (rw power (pow_below k 4 within))

pub clear_same : (bits k : ℕ) → k < 8 → bit k (bit_and bits (255 - 1 * 2 ^ k % 256)) ≡ 0
clear_same bits k within = bit_at_clear_same w8 bits k within

pub clear_other : (bits k i : ℕ) → bits < 2 ^ 8 → k < 8 → i ≢ k → bit i (bit_and bits (255 - 1 * 2 ^ k % 256)) ≡ bit i bits
clear_other bits k i byte within other =
    let rest = bit_and bits (255 - 1 * 2 ^ k % 256) in
    let less : rest < 2 ^ 8 = omega (arith, and_le_l bits (255 - 1 * 2 ^ k % 256)) in
    elim (cases_lt i 8) [
      | inl low ↦ bit_at_clear_other w8 bits k within i low other
      | inr high ↦ bit_at_above rest 8 i less high ∙ sym (bit_at_above bits 8 i byte high)
    ]
