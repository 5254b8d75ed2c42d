-- Each slot of a metadata word is in the word with a set of slots alone or in the one without them, and in one of them.
use Rattle.std.proofs.Common.{◌≡◌, ℕ, ◌+◌, ◌-◌, ◌*◌, ◌/◌, ◌%◌, ◌^◌, ◌<◌, ap, ◌∙◌, inl, inr, arith, bit_and}
use Rattle.std.specs.Int.{bit_not, w64}
use Rattle.std.proofs.lemmas.Bool.{cases_eq}
use Rattle.std.proofs.lemmas.Nat.{and_shr, and_mask, and_le_r}
use Rattle.std.proofs.lemmas.Nat.Bits.{bit_at_and, bit_at_not, bit_at-lt, bit_at_cat_low, bit_at_cat_high}
use Rattle.word_bits.specs.Bits.{bit}
use Rattle.bucket_meta.specs.Bucket.{allocated, member}
use Rattle.bucket_meta.specs.Marks.{slot_bits, copied_mark, cleared_mark}
use Rattle.bucket_meta.proofs.fields.Uppers.{ones_above}
use Rattle.whole_segment.specs.Slots.{SameSlot, IsFreeSlot, AreHalves}

module _ (slots : ℕ) (set : slots < 2 ^ 14) where
  twice : slot_bits slots ≡ slots * 2 ^ 14 + slots
  twice = omega arith

  pub bits_small : slot_bits slots < 2 ^ 28
  bits_small = omega (arith, set)

  allocation : (r : ℕ) → r < 14 → bit r (slot_bits slots) ≡ bit r slots
  allocation r low = ap (bit r) twice ∙ bit_at_cat_low slots 14 slots r low

  behind : (r : ℕ) → 14 + r - 14 ≡ r
  behind r = omega arith

  membership : (r : ℕ) → r < 14 → bit (14 + r) (slot_bits slots) ≡ bit r slots
  membership r low = ap (bit (14 + r)) twice ∙ bit_at_cat_high slots 14 slots (14 + r) set (omega arith) ∙ ap (λ i. bit i slots) (behind r)

-- ---- one bit of a word, by the bit of the set
module _ (w m i : ℕ) where
  in_copy : bit i m ≡ 1 → bit i (bit_and w m) ≡ bit i w
  in_copy on = omega (arith, bit_at_and w m i, bit_at-lt w i, on)

  out_of_copy : bit i m ≡ 0 → bit i (bit_and w m) ≡ 0
  out_of_copy off = omega (arith, bit_at_and w m i, off)

  out_of_rest : m < 2 ^ 64 → i < 64 → bit i m ≡ 1 → bit i (bit_and w (bit_not w64 m)) ≡ 0
  out_of_rest fits low on = omega (arith, bit_at_and w (bit_not w64 m) i, bit_at_not w64 m i fits low, on)

  in_rest : m < 2 ^ 64 → i < 64 → bit i m ≡ 0 → bit i (bit_and w (bit_not w64 m)) ≡ bit i w
  in_rest fits low off = omega (arith, bit_at_and w (bit_not w64 m) i, bit_at_not w64 m i fits low, bit_at-lt w i, off)

module _ (w1 slots : ℕ) (word : w1 < 2 ^ 64) (set : slots < 2 ^ 14) where
  fits : slot_bits slots < 2 ^ 64
  fits = let small = bits_small slots set in omega (arith, small)

  moved : (r : ℕ) → r < 14 → bit r slots ≡ 1 → SameSlot r w1 (copied_mark w1 slots) × IsFreeSlot r (cleared_mark w1 slots)
  moved r low on =
      let here = allocation slots set r low ∙ on in
      let there = membership slots set r low ∙ on in (
        record { taken = in_copy w1 (slot_bits slots) r here; membership = in_copy w1 (slot_bits slots) (14 + r) there },
        record {
          taken = out_of_rest w1 (slot_bits slots) r fits (omega (arith, low)) here;
          membership = out_of_rest w1 (slot_bits slots) (14 + r) fits (omega (arith, low)) there;
        },
      )

  stayed : (r : ℕ) → r < 14 → bit r slots ≡ 0 → IsFreeSlot r (copied_mark w1 slots) × SameSlot r w1 (cleared_mark w1 slots)
  stayed r low off =
      let here = allocation slots set r low ∙ off in
      let there = membership slots set r low ∙ off in (
        record { taken = out_of_copy w1 (slot_bits slots) r here; membership = out_of_copy w1 (slot_bits slots) (14 + r) there },
        record {
          taken = in_rest w1 (slot_bits slots) r fits (omega (arith, low)) here;
          membership = in_rest w1 (slot_bits slots) (14 + r) fits (omega (arith, low)) there;
        },
      )

  together : (r : ℕ) → r < 14
      → (allocated r (copied_mark w1 slots) + allocated r (cleared_mark w1 slots) ≡ allocated r w1)
      × (member r (copied_mark w1 slots) + member r (cleared_mark w1 slots) ≡ member r w1)
  together r low = elim (cases_eq (bit r slots) 1) [
    | inl on ↦
        let parts = moved r low on in (
          sum _ _ _ parts.0.taken parts.1.taken,
          sum _ _ _ parts.0.membership parts.1.membership,
        )
    | inr other ↦
        let off : bit r slots ≡ 0 = omega (arith, bit_at-lt slots r, other) in
        let parts = stayed r low off in (
          sum_back _ _ _ parts.0.taken parts.1.taken,
          sum_back _ _ _ parts.0.membership parts.1.membership,
        )
  ]
    where
      sum : (a b w : ℕ) → a ≡ w → b ≡ 0 → a + b ≡ w
      sum a b w e f = omega arith

      sum_back : (a b w : ℕ) → a ≡ 0 → b ≡ w → a + b ≡ w
      sum_back a b w e f = omega arith

  no_overflow : copied_mark w1 slots < 2 ^ 28
  no_overflow = let most = and_le_r w1 (slot_bits slots) in let small = bits_small slots set in omega (arith, most, small)

  upper : cleared_mark w1 slots / 2 ^ 28 ≡ w1 / 2 ^ 28
  upper =
      let small : w1 / 2 ^ 28 % 2 ^ 36 ≡ w1 / 2 ^ 28 = omega (arith, word) in
      and_shr w1 (bit_not w64 (slot_bits slots)) 28 ∙ ap (bit_and (w1 / 2 ^ 28)) (ones_above (slot_bits slots) (bits_small slots set)) ∙ and_mask (w1 / 2 ^ 28) 36 ∙ small

  pub are_halves : AreHalves w1 slots (copied_mark w1 slots) (cleared_mark w1 slots)
  are_halves = record { moved = moved; stayed = stayed; together = together; no_overflow = no_overflow; upper = upper }
