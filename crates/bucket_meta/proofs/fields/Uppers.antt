-- The marks of a slot leave the upper part of the metadata word, which has the overflow notes, and are words.
use Rattle.std.proofs.Common.{◌≡◌, ℕ, ◌+◌, ◌-◌, ◌/◌, ◌%◌, ◌^◌, ◌<◌, cond, ◌∙◌, ap, sym, subst, lt_of_le_of_lt, arith, bit_and, bit_or}
use Rattle.std.specs.Int.{bit_not, w64}
use Rattle.std.proofs.lemmas.Bool.{lt-ltb}
use Rattle.std.proofs.lemmas.Nat.{and_shr, or_shr, and_mask, and_le_l, and_le_r, or_lt, or_disjoint, pow_below}
use Rattle.word_bits.specs.Bits.{mask}
use Rattle.bucket_meta.specs.Marks.{inserted_mark, member_mark, removed_mark}

mask_is : (i : ℕ) → i < 64 → mask i ≡ 2 ^ i
mask_is i low = ap (λ b. cond b (2 ^ i) 0) (lt-ltb i 64 low)

mask_low : (i : ℕ) → i < 28 → mask i < 2 ^ 28
mask_low i low = subst (λ z. z < 2 ^ 28) (sym (mask_is i (omega (arith, low)))) (pow_below i 28 low)

pub or_none : (x : ℕ) → bit_or x 0 ≡ x
or_none x = let none = and_le_r x 0 in let e = or_disjoint x 0 (omega (arith, none)) in omega (arith, e)

set_upper : (n i : ℕ) → i < 28 → bit_or n (mask i) / 2 ^ 28 ≡ n / 2 ^ 28
set_upper n i low =
    let small = mask_low i low in
    let none : mask i / 2 ^ 28 ≡ 0 = omega (arith, small) in
    or_shr n (mask i) 28 ∙ ap (bit_or (n / 2 ^ 28)) none ∙ or_none (n / 2 ^ 28)

pub ones_above : (m : ℕ) → m < 2 ^ 28 → (2 ^ 64 - 1 - m) / 2 ^ 28 ≡ 2 ^ 36 - 1
ones_above m small = omega (arith, small)

clear_upper : (n i : ℕ) → n < 2 ^ 64 → i < 28 → bit_and n (bit_not w64 (mask i)) / 2 ^ 28 ≡ n / 2 ^ 28
clear_upper n i fits low =
    let small : n / 2 ^ 28 % 2 ^ 36 ≡ n / 2 ^ 28 = omega (arith, fits) in
    and_shr n (bit_not w64 (mask i)) 28 ∙ ap (bit_and (n / 2 ^ 28)) (ones_above (mask i) (mask_low i low)) ∙ and_mask (n / 2 ^ 28) 36 ∙ small

set_fits : (n i : ℕ) → n < 2 ^ 64 → i < 28 → bit_or n (mask i) < 2 ^ 64
set_fits n i fits low = let small = mask_low i low in or_lt 64 n (mask i) fits (omega (arith, small))

module _ (w s : ℕ) (fits : w < 2 ^ 64) (slot : s < 14) where
  pub inserted_upper : inserted_mark w s / 2 ^ 28 ≡ w / 2 ^ 28
  inserted_upper = clear_upper (bit_or w (mask s)) (14 + s) (set_fits w s fits (omega (arith, slot))) (omega (arith, slot)) ∙ set_upper w s (omega (arith, slot))

  pub member_upper : member_mark w s / 2 ^ 28 ≡ w / 2 ^ 28
  member_upper = set_upper (bit_or w (mask s)) (14 + s) (omega (arith, slot)) ∙ set_upper w s (omega (arith, slot))

  pub removed_upper : removed_mark w s / 2 ^ 28 ≡ w / 2 ^ 28
  removed_upper = clear_upper (bit_and w (bit_not w64 (mask s))) (14 + s) (lt_of_le_of_lt (and_le_l w (bit_not w64 (mask s))) fits) (omega (arith, slot)) ∙ clear_upper w s fits (omega (arith, slot))

  pub inserted_fits : inserted_mark w s < 2 ^ 64
  inserted_fits = lt_of_le_of_lt (and_le_l (bit_or w (mask s)) (bit_not w64 (mask (14 + s)))) (set_fits w s fits (omega (arith, slot)))

  pub member_fits : member_mark w s < 2 ^ 64
  member_fits = set_fits (bit_or w (mask s)) (14 + s) (set_fits w s fits (omega (arith, slot))) (omega (arith, slot))

  pub removed_fits : removed_mark w s < 2 ^ 64
  removed_fits = lt_of_le_of_lt (and_le_l (bit_and w (bit_not w64 (mask s))) (bit_not w64 (mask (14 + s)))) (lt_of_le_of_lt (and_le_l w (bit_not w64 (mask s))) fits)
