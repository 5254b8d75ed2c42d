-- A word of fingerprints with one byte replaced has that byte there, and the others as they were.
use Rattle.std.proofs.Common.{◌≡◌, ◌≢◌, ℕ, zero, suc, ◌-◌, ◌*◌, ◌/◌, ◌%◌, ◌^◌, ◌<◌, ◌≤◌, inl, inr, cond, List, refl, sym, ◌∙◌, ap, subst, arith, length, slice_index, slice_set, get_or-set_same, get_or-set_other, length-set}
use Rattle.std.specs.Int.{w64, to_le_bytes, from_le_bytes}
use Rattle.std.proofs.lemmas.Bool.{cases_eq, cases_lt, lt-ltb, le-ltb}
use Rattle.std.proofs.lemmas.Nat.{le_bytes_8}
use Rattle.bucket_meta.specs.Bucket.{finger}
use Rattle.word_bits.specs.Bits.{bits}
use Rattle.bucket_meta.specs.Marks.{with_finger, SetsFinger}

-- byte t of a word's bytes
byte_is : (n t : ℕ) → t < 8 → slice_index (to_le_bytes w64 n) t ≡ bits (8 * t) 8 n
byte_is n zero near = omega arith
byte_is n (suc zero) near = omega arith
byte_is n (suc (suc zero)) near = omega arith
byte_is n (suc (suc (suc zero))) near = omega arith
byte_is n (suc (suc (suc (suc zero)))) near = omega arith
byte_is n (suc (suc (suc (suc (suc zero))))) near = omega arith
byte_is n (suc (suc (suc (suc (suc (suc zero)))))) near = omega arith
byte_is n (suc (suc (suc (suc (suc (suc (suc zero))))))) near = omega arith
byte_is n (suc (suc (suc (suc (suc (suc (suc (suc t)))))))) near = absurd (omega (arith, near))

byte_small : (n t : ℕ) → slice_index (to_le_bytes w64 n) t < 256
byte_small n t = elim (cases_lt t 8) [
  | inl near ↦ subst (λ b. b < 256) (sym (byte_is n t near)) (omega arith)
  | inr far ↦ far_small n t far
]
  where
    far_small : (n t : ℕ) → 8 ≤ t → slice_index (to_le_bytes w64 n) t < 256
    far_small n (suc (suc (suc (suc (suc (suc (suc (suc t)))))))) far = omega arith
    far_small n t far = absurd (omega (arith, far))

module _ (w slot f : ℕ) (fits : f < 256) where
  abbrev set_bytes : List ℕ
  set_bytes = slice_set (to_le_bytes w64 w) (slot % 8) f

  set_long : length set_bytes ≡ 8
  set_long = length-set (to_le_bytes w64 w) (slot % 8) f

  set_here : slice_index set_bytes (slot % 8) ≡ f
  set_here = get_or-set_same (to_le_bytes w64 w) (slot % 8) f 0 (omega arith)

  set_there : (t : ℕ) → t ≢ slot % 8 → slice_index set_bytes t ≡ slice_index (to_le_bytes w64 w) t
  set_there t apart = get_or-set_other (to_le_bytes w64 w) (slot % 8) t f 0 apart

  set_small : (t : ℕ) → slice_index set_bytes t < 256
  set_small t = elim (cases_eq t (slot % 8)) [
    | inl e ↦ subst (λ b. b < 256) (sym (ap (slice_index set_bytes) e ∙ set_here)) fits
    | inr apart ↦ subst (λ b. b < 256) (sym (set_there t apart)) (byte_small w t)
  ]

  set_byte : (t : ℕ) → t < 8 → bits (8 * t) 8 (with_finger w slot f) ≡ slice_index set_bytes t
  set_byte t near = sym (byte_is (from_le_bytes w64 set_bytes) t near)
      ∙ ap (λ bs. slice_index bs t) (le_bytes_8 set_bytes (from_le_bytes w64 set_bytes) set_long set_small refl)

  byte_here : (t : ℕ) → t < 8 → t ≡ slot % 8 → bits (8 * t) 8 (with_finger w slot f) ≡ f
  byte_here t near e = set_byte t near ∙ (ap (slice_index set_bytes) e ∙ set_here)

  pub byte_there : (t : ℕ) → t < 8 → t ≢ slot % 8 → bits (8 * t) 8 (with_finger w slot f) ≡ bits (8 * t) 8 w
  byte_there t near apart = set_byte t near ∙ (set_there t apart ∙ byte_is w t near)

  -- among the fingerprints of a bucket
  low_here : (w3 : ℕ) → slot < 8 → finger slot (with_finger w slot f) w3 ≡ f
  low_here w3 low = ap (λ b. cond b (bits (8 * slot) 8 (with_finger w slot f)) (bits (8 * (slot - 8)) 8 w3)) (lt-ltb slot 8 low) ∙ byte_here slot low (omega (arith, low))

  high_here : (w2 : ℕ) → 8 ≤ slot → slot < 14 → finger slot w2 (with_finger w slot f) ≡ f
  high_here w2 high slots = ap (λ b. cond b (bits (8 * slot) 8 w2) (bits (8 * (slot - 8)) 8 (with_finger w slot f))) (le-ltb slot 8 high)
      ∙ byte_here (slot - 8) (omega (arith, slots)) (omega (arith, high, slots))

  low_there : (w3 t : ℕ) → slot < 8 → t ≢ slot → finger t (with_finger w slot f) w3 ≡ finger t w w3
  low_there w3 t low apart = elim (cases_lt t 8) [
    | inl near ↦ ap (λ b. cond b (bits (8 * t) 8 (with_finger w slot f)) (bits (8 * (t - 8)) 8 w3)) (lt-ltb t 8 near)
        ∙ (byte_there t near (λ e. apart (omega (arith, e, low))) ∙ sym (ap (λ b. cond b (bits (8 * t) 8 w) (bits (8 * (t - 8)) 8 w3)) (lt-ltb t 8 near)))
    | inr far ↦ ap (λ b. cond b (bits (8 * t) 8 (with_finger w slot f)) (bits (8 * (t - 8)) 8 w3)) (le-ltb t 8 far)
        ∙ sym (ap (λ b. cond b (bits (8 * t) 8 w) (bits (8 * (t - 8)) 8 w3)) (le-ltb t 8 far))
  ]

  high_there : (w2 t : ℕ) → 8 ≤ slot → slot < 14 → t < 14 → t ≢ slot → finger t w2 (with_finger w slot f) ≡ finger t w2 w
  high_there w2 t high slots small apart = elim (cases_lt t 8) [
    | inl near ↦ ap (λ b. cond b (bits (8 * t) 8 w2) (bits (8 * (t - 8)) 8 (with_finger w slot f))) (lt-ltb t 8 near)
        ∙ sym (ap (λ b. cond b (bits (8 * t) 8 w2) (bits (8 * (t - 8)) 8 w)) (lt-ltb t 8 near))
    | inr far ↦ ap (λ b. cond b (bits (8 * t) 8 w2) (bits (8 * (t - 8)) 8 (with_finger w slot f))) (le-ltb t 8 far)
        ∙ (byte_there (t - 8) (omega (arith, small)) (λ e. apart (omega (arith, e, high, slots, far, small)))
        ∙ sym (ap (λ b. cond b (bits (8 * t) 8 w2) (bits (8 * (t - 8)) 8 w)) (le-ltb t 8 far)))
  ]

pub sets_low : (w2 w3 slot f : ℕ) → slot < 8 → f < 256 → SetsFinger w2 w3 (with_finger w2 slot f) w3 slot f
sets_low w2 w3 slot f low fits = record { here = low_here w2 slot f fits w3 low; others = λ t small apart. low_there w2 slot f fits w3 t low apart }

pub sets_high : (w2 w3 slot f : ℕ) → 8 ≤ slot → slot < 14 → f < 256 → SetsFinger w2 w3 w2 (with_finger w3 slot f) slot f
sets_high w2 w3 slot f high slots fits = record {
  here = high_here w3 slot f fits w2 high slots;
  others = λ t small apart. high_there w3 slot f fits w2 t high slots small apart;
}

-- eight bytes make a word
pub finger_below : (w slot f : ℕ) → f < 256 → with_finger w slot f < 2 ^ 64
finger_below w slot f fits =
    let b0 = set_small w slot f fits 0 in
    let b1 = set_small w slot f fits 1 in
    let b2 = set_small w slot f fits 2 in
    let b3 = set_small w slot f fits 3 in
    let b4 = set_small w slot f fits 4 in
    let b5 = set_small w slot f fits 5 in
    let b6 = set_small w slot f fits 6 in
    let b7 = set_small w slot f fits 7 in
    omega (arith, b0, b1, b2, b3, b4, b5, b6, b7)

-- the last two bytes of word 3 are those of overflow notes, and stay
pub upper_kept : (w slot f : ℕ) → f < 256 → 8 ≤ slot → slot < 14 → with_finger w slot f / 2 ^ 48 % 2 ^ 16 ≡ w / 2 ^ 48 % 2 ^ 16
upper_kept w slot f fits high slots =
    let b6 = byte_there w slot f fits 6 (omega arith) (λ e. omega (arith, e, high, slots)) in
    let b7 = byte_there w slot f fits 7 (omega arith) (λ e. omega (arith, e, high, slots)) in
    omega (arith, b6, b7)
