-- The lowest slot of a set that is not empty is its trailing zeros, and a set without another one has the slots that are in it alone.
use Rattle.std.proofs.Common.{◌≡◌, ◌≢◌, ℕ, ◌-◌, ◌^◌, ◌<◌, ◌≤◌, Option, sym, ◌∙◌, subst, inl, inr, arith, lit<, bit_and, count_ones}
use Rattle.std.specs.Prelude.{IfSome}
use Rattle.std.proofs.lemmas.Bool.{cases_lt}
use Rattle.std.proofs.lemmas.Nat.Bits.{bit_at-trailing_zeros, bit_at_above, bit_at-zero, bit_at_and, bit_at_not, bit_at-lt, same_from_bits_below}
use Rattle.std.proofs.lemmas.Option.{IfSome_then}
use Rattle.std.specs.Int.{w16, trailing_zeros}
use Rattle.word_bits.specs.Bits.{bit}
use Rattle.bucket_meta.specs.Bucket.{record_slots}

-- a slot of a set of 14 is one of the 14
within : (slots s : ℕ) → slots < 2 ^ 14 → bit s slots ≡ 1 → s < 14
within slots s whole inside =
    elim (cases_lt s 14) [
      | inl low ↦ low
      | inr high ↦ absurd (omega (arith, bit_at_above slots 14 s whole high))
    ]

pub lowest_slot : (slots t : ℕ) → slots < 2 ^ 14 → 0 < slots → t ≡ trailing_zeros w16 slots
    → (t < 14) × (bit t slots ≡ 1) × ((s : ℕ) → s < t → bit s slots ≡ 0)
lowest_slot slots t whole some e =
    let P : ℕ → Type 0 = λ n. (n < 14) × (bit n slots ≡ 1) × ((s : ℕ) → s < n → bit s slots ≡ 0) in
    let found = bit_at-trailing_zeros w16 slots some (omega arith) in
    subst P (sym e) (within slots (trailing_zeros w16 slots) whole found.1, found.1, found.2)

pub empty_set : (slots : ℕ) → slots < 2 ^ 14 → ((s : ℕ) → s < 14 → bit s slots ≡ 0) → slots ≡ 0
empty_set slots whole none =
    same_from_bits_below 14 slots 0 whole (lit< tt) (λ s low. none s low ∙ sym (bit_at-zero s))

-- a bucket that is not full has room, whichever slot it is for
pub has_room : (slot : Option ℕ) (filled alloc : ℕ) → IfSome slot (λ s. s < record_slots) → filled ≡ count_ones alloc → filled ≤ 14 → filled ≢ 14
    → IfSome slot (λ _. count_ones alloc < record_slots)
has_room slot filled alloc some count at_most not_full = IfSome_then slot some (λ s low. omega (arith, count, at_most, not_full))

-- ---- the slots of a that are in m too

pub in_both : (a m s : ℕ) → bit s (bit_and a m) ≡ 1 → (bit s a ≡ 1) × (bit s m ≡ 1)
in_both a m s inside = (omega (arith, bit_at_and a m s, bit_at-lt a s), omega (arith, bit_at_and a m s, bit_at-lt m s))

pub not_in_both : (a m s : ℕ) → bit s (bit_and a m) ≡ 0 → bit s a ≡ 1 → bit s m ≡ 0
not_in_both a m s outside in_a = omega (arith, bit_at_and a m s, bit_at-lt m s)

pub outside_both : (a m s : ℕ) → (bit s a ≡ 1 → bit s m ≡ 0) → bit s (bit_and a m) ≡ 0
outside_both a m s apart =
    elim (cases_lt (bit s a) 1) [
      | inl outside ↦ omega (arith, bit_at_and a m s)
      | inr inside ↦ omega (arith, bit_at_and a m s, apart (omega (arith, bit_at-lt a s)))
    ]

-- ---- the slots of a that are not in m

left_out : (m s : ℕ) → m < 2 ^ 14 → s < 14 → bit s (65535 - m) ≡ 1 - bit s m
left_out m s whole low = bit_at_not w16 m s (omega arith) (omega arith)

pub in_first : (a m s : ℕ) → a < 2 ^ 14 → m < 2 ^ 14 → bit s (bit_and a (65535 - m)) ≡ 1 → (bit s a ≡ 1) × (bit s m ≡ 0)
in_first a m s a_whole m_whole inside =
    let both = in_both a (65535 - m) s inside in
    (both.0, omega (arith, both.1, left_out m s m_whole (within a s a_whole both.0)))

pub not_in_first : (a m s : ℕ) → a < 2 ^ 14 → m < 2 ^ 14 → bit s (bit_and a (65535 - m)) ≡ 0 → bit s a ≡ 1 → bit s m ≡ 1
not_in_first a m s a_whole m_whole outside in_a =
    omega (arith, not_in_both a (65535 - m) s outside in_a, left_out m s m_whole (within a s a_whole in_a), bit_at-lt m s)

pub outside_first : (a m s : ℕ) → a < 2 ^ 14 → m < 2 ^ 14 → (bit s a ≡ 1 → bit s m ≡ 1) → bit s (bit_and a (65535 - m)) ≡ 0
outside_first a m s a_whole m_whole each =
    outside_both a (65535 - m) s (λ in_a. omega (arith, left_out m s m_whole (within a s a_whole in_a), each in_a))
