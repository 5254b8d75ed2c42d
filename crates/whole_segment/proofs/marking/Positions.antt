-- A position has one bucket and one slot, and these have that position.
use Rattle.std.proofs.Common.{◌≡◌, ◌≢◌, ℕ, suc, ◌+◌, ◌-◌, ◌/◌, ◌<◌, ◌≤◌, cond, Bool, true, false, sym, ap, ◌∙◌, inl, inr, arith}
use Rattle.std.specs.Prelude.{◌==◌}
use Rattle.std.proofs.lemmas.Bool.{cases_eq, cases_lt, eq-eqb, ne_eqb}
use Rattle.hash_word.specs.Hash.{probing_of}
use Rattle.image_layout.specs.Standing.{looked_at}
use Rattle.whole_segment.specs.Order.{bucket_in_order, slot_at, position_of}

-- a choice by tests that are known
first_of : (b c d e : Bool) (v w x y z : ℕ) → b ≡ true → cond b v (cond c w (cond d x (cond e y z))) ≡ v
first_of b c d e v w x y z is = ap (λ t. cond t v (cond c w (cond d x (cond e y z)))) is

second_of : (b c d e : Bool) (v w x y z : ℕ) → b ≡ false → c ≡ true → cond b v (cond c w (cond d x (cond e y z))) ≡ w
second_of b c d e v w x y z apart is = ap (λ t. cond t v (cond c w (cond d x (cond e y z)))) apart ∙ ap (λ t. cond t w (cond d x (cond e y z))) is

third_of : (b c d e : Bool) (v w x y z : ℕ) → b ≡ false → c ≡ false → d ≡ true → cond b v (cond c w (cond d x (cond e y z))) ≡ x
third_of b c d e v w x y z apart not is =
    ap (λ t. cond t v (cond c w (cond d x (cond e y z)))) apart ∙ ap (λ t. cond t w (cond d x (cond e y z))) not ∙ ap (λ t. cond t x (cond e y z)) is

last_of : (b c d e : Bool) (v w x y z : ℕ) → b ≡ false → c ≡ false → d ≡ false → cond b v (cond c w (cond d x (cond e y z))) ≡ cond e y z
last_of b c d e v w x y z apart not none =
    ap (λ t. cond t v (cond c w (cond d x (cond e y z)))) apart ∙ ap (λ t. cond t w (cond d x (cond e y z))) not ∙ ap (λ t. cond t x (cond e y z)) none

module _ (home : ℕ) (within : home < 64) where
  probing_apart : probing_of home ≢ home
  probing_apart e = omega (arith, e, within)

  probing_low : probing_of home < 64
  probing_low = omega arith

  -- ---- the bucket of a position
  pub in_home : (p : ℕ) → p < 14 → bucket_in_order home p ≡ home
  in_home p low = let n : p / 14 ≡ 0 = omega (arith, low) in ap (looked_at home) n

  pub in_probing : (p : ℕ) → 14 ≤ p → p < 28 → bucket_in_order home p ≡ probing_of home
  in_probing p high low = let n : p / 14 ≡ 1 = omega (arith, high, low) in ap (looked_at home) n

  pub in_stash : (p : ℕ) → 28 ≤ p → p < 42 → bucket_in_order home p ≡ 64
  in_stash p high low = let n : p / 14 ≡ 2 = omega (arith, high, low) in ap (looked_at home) n

  pub in_last : (p : ℕ) → 42 ≤ p → bucket_in_order home p ≡ 65
  in_last p high = let n : p / 14 ≡ suc (suc (suc (p / 14 - 3))) = omega (arith, high) in ap (looked_at home) n

  pub bucket_low : (p : ℕ) → bucket_in_order home p < 66
  bucket_low p = elim (cases_lt p 14) [
    | inl low ↦ omega (arith, in_home p low, within)
    | inr high ↦ elim (cases_lt p 28) [
      | inl low ↦ omega (arith, in_probing p high low, probing_low)
      | inr higher ↦ elim (cases_lt p 42) [ inl low ↦ omega (arith, in_stash p higher low) | inr last ↦ omega (arith, in_last p last) ]
    ]
  ]

  -- ---- the position of a slot
  at_home : (b r : ℕ) → b ≡ home → position_of home b r ≡ r
  at_home b r e = first_of (b == home) (b == probing_of home) (b == 64) (b == 65) r (14 + r) (28 + r) (42 + r) 56 (eq-eqb b home e)

  at_probing : (b r : ℕ) → b ≡ probing_of home → position_of home b r ≡ 14 + r
  at_probing b r e =
      second_of (b == home) (b == probing_of home) (b == 64) (b == 65) r (14 + r) (28 + r) (42 + r) 56
      (ne_eqb b home (λ f. probing_apart (sym e ∙ f))) (eq-eqb b (probing_of home) e)

  at_stash : (b r : ℕ) → b ≡ 64 → position_of home b r ≡ 28 + r
  at_stash b r e =
      third_of (b == home) (b == probing_of home) (b == 64) (b == 65) r (14 + r) (28 + r) (42 + r) 56
      (ne_eqb b home (λ f. omega (arith, e, f, within))) (ne_eqb b (probing_of home) (λ f. omega (arith, e, f, probing_low))) (eq-eqb b 64 e)

  behind : (b r : ℕ) → b ≢ home → b ≢ probing_of home → b ≢ 64 → position_of home b r ≡ cond (b == 65) (42 + r) 56
  behind b r apart not none =
      last_of (b == home) (b == probing_of home) (b == 64) (b == 65) r (14 + r) (28 + r) (42 + r) 56 (ne_eqb b home apart) (ne_eqb b (probing_of home) not) (ne_eqb b 64 none)

  at_last : (b r : ℕ) → b ≡ 65 → position_of home b r ≡ 42 + r
  at_last b r e =
      behind b r (λ f. omega (arith, e, f, within)) (λ f. omega (arith, e, f, probing_low)) (λ f. omega (arith, e, f)) ∙ ap (λ t. cond t (42 + r) 56) (eq-eqb b 65 e)

  nowhere : (b r : ℕ) → b ≢ home → b ≢ probing_of home → b ≢ 64 → b ≢ 65 → position_of home b r ≡ 56
  nowhere b r apart not none nor = behind b r apart not none ∙ ap (λ t. cond t (42 + r) 56) (ne_eqb b 65 nor)

  pub position_most : (b r : ℕ) → r < 14 → position_of home b r ≤ 56
  position_most b r low = elim (cases_eq b home) [
    | inl e ↦ omega (arith, at_home b r e, low)
    | inr apart ↦ elim (cases_eq b (probing_of home)) [
      | inl e ↦ omega (arith, at_probing b r e, low)
      | inr not ↦ elim (cases_eq b 64) [
        | inl e ↦ omega (arith, at_stash b r e, low)
        | inr none ↦ elim (cases_eq b 65) [
          | inl e ↦ omega (arith, at_last b r e, low)
          | inr nor ↦ omega (arith, nowhere b r apart not none nor)
        ]
      ]
    ]
  ]

  -- ---- there and back
  pub position_again : (p : ℕ) → p < 56 → position_of home (bucket_in_order home p) (slot_at p) ≡ p
  position_again p low = elim (cases_lt p 14) [
    | inl one ↦ let e = at_home (bucket_in_order home p) (slot_at p) (in_home p one) in omega (arith, e, one)
    | inr high ↦ elim (cases_lt p 28) [
      | inl two ↦ let e = at_probing (bucket_in_order home p) (slot_at p) (in_probing p high two) in omega (arith, e, high, two)
      | inr higher ↦ elim (cases_lt p 42) [
        | inl three ↦ let e = at_stash (bucket_in_order home p) (slot_at p) (in_stash p higher three) in omega (arith, e, higher, three)
        | inr last ↦ let e = at_last (bucket_in_order home p) (slot_at p) (in_last p last) in omega (arith, e, last, low)
      ]
    ]
  ]

  -- bucket b and slot r are those of position p
  pub record IsPlaceOf (b r p : ℕ) : Type 0 where
    pub bucket : bucket_in_order home p ≡ b
    pub slot : slot_at p ≡ r

  pub place_again : (b r : ℕ) → r < 14 → position_of home b r < 56 → IsPlaceOf b r (position_of home b r)
  place_again b r low looked = elim (cases_eq b home) [
    | inl e ↦ let p = at_home b r e in record {
      bucket = in_home (position_of home b r) (omega (arith, p, low)) ∙ sym e;
      slot = omega (arith, p, low);
    }
    | inr apart ↦ elim (cases_eq b (probing_of home)) [
      | inl e ↦ let p = at_probing b r e in record {
        bucket = in_probing (position_of home b r) (omega (arith, p)) (omega (arith, p, low)) ∙ sym e;
        slot = omega (arith, p, low);
      }
      | inr not ↦ elim (cases_eq b 64) [
        | inl e ↦ let p = at_stash b r e in record {
          bucket = in_stash (position_of home b r) (omega (arith, p)) (omega (arith, p, low)) ∙ sym e;
          slot = omega (arith, p, low);
        }
        | inr none ↦ elim (cases_eq b 65) [
          | inl e ↦ let p = at_last b r e in record { bucket = in_last (position_of home b r) (omega (arith, p)) ∙ sym e; slot = omega (arith, p, low) }
          | inr nor ↦ absurd (let p = nowhere b r apart not none nor in omega (arith, p, looked))
        ]
      ]
    ]
  ]
