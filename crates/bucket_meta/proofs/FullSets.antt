-- A set of 14 slots is full where its count is 14, and else its trailing ones end at the lowest slot that it lacks.
use Rattle.std.proofs.Common.{◌≡◌, ℕ, zero, suc, ◌-◌, ◌/◌, ◌^◌, ◌<◌, ap, sym, ◌∙◌, subst, arith, lit<, count_ones}
use Rattle.std.proofs.Math.Nat.{pow-suc}
use Rattle.std.proofs.lemmas.Nat.{ones-le}
use Rattle.std.proofs.lemmas.Nat.Bits.{bit_at_lowest, bit_at-suc, bit_at_ones, bit_at-trailing_ones, same_from_bits_below}
use Rattle.std.specs.Int.{w16, trailing_ones}
use Rattle.std.specs.Int.Count.{ones_step, ones-ones}
use Rattle.word_bits.specs.Bits.{bit}
use Rattle.bucket_meta.specs.Slots.{IsFull}

-- the place of the lowest 0 of a set of slots
pub lowest_clear : (slots t : ℕ) → slots < 2 ^ 14 → t ≡ trailing_ones w16 slots → (bit t slots ≡ 0) × ((s : ℕ) → s < t → bit s slots ≡ 1)
lowest_clear slots t whole e =
    let P : ℕ → Type 0 = λ n. (bit n slots ≡ 0) × ((s : ℕ) → s < n → bit s slots ≡ 1) in
    let found = bit_at-trailing_ones w16 slots (omega arith) in
    subst P (sym e) (found.1, found.2)

pub full_is_all : (slots : ℕ) → slots < 2 ^ 14 → IsFull slots → count_ones slots ≡ 14
full_is_all slots whole full =
    ap count_ones (same_from_bits_below 14 slots (2 ^ 14 - 1) whole (lit< tt) (λ s within. full s within ∙ sym (bit_at_ones 14 s within)))
    ∙ ones-ones 14

-- a number below 2 ^ k with k ones has no 0 below k
all_ones : (k n i : ℕ) → n < 2 ^ k → count_ones n ≡ k → i < k → bit i n ≡ 1
all_ones zero n i whole full within = absurd (omega arith)
all_ones (suc k) n zero whole full within =
    let half : n / 2 < 2 ^ k = omega (arith, pow-suc 2 k) in
    bit_at_lowest n ∙ omega (arith, ones_step n, ones-le k (n / 2) half)
all_ones (suc k) n (suc i) whole full within =
    let half : n / 2 < 2 ^ k = omega (arith, pow-suc 2 k) in
    bit_at-suc n i ∙ all_ones k (n / 2) i half (omega (arith, ones_step n, ones-le k (n / 2) half)) (omega arith)

pub all_is_full : (slots : ℕ) → slots < 2 ^ 14 → count_ones slots ≡ 14 → IsFull slots
all_is_full slots whole all s within = all_ones 14 slots s whole all within
