-- A number whose bits are the comparisons of 14 fingerprints with a byte is their scan, and is made bit by bit.
use Rattle.std.proofs.Common.{◌≡◌, ◌≢◌, ℕ, ◌+◌, ◌*◌, ◌%◌, ◌^◌, ◌<◌, Bool, true, false, cond, eqb, List, refl, ap, sym, ◌∙◌, inl, inr, arith, get_or, bit_or, below_more}
use Rattle.std.proofs.lemmas.Bool.{cases_lt, eqb-true, eq-eqb}
use Rattle.std.proofs.lemmas.Nat.{one_shl, or_lt, pow_below}
use Rattle.std.proofs.lemmas.Nat.Bits.{bit_at-lt, bit_at_above, bit_at_set_same, bit_at_set_other, same_from_bits}
use Rattle.std.specs.Int.{bit_at, w16}
use Rattle.finger_scan.specs.Scan.{IsScanOf, ScanIsDetermined}

-- the bits below n are the comparisons, and there are no others
pub record IsScanBelow (n : ℕ) (fps : List ℕ) (byte found : ℕ) : Type 0 where
  pub within : found < 2 ^ n
  pub compared : (s : ℕ) → s < n → bit_at found s ≡ cond (eqb (get_or fps s 0) byte) 1 0

is_true : (b : Bool) → ◌≡◌ {A = ℕ} (cond b 1 0) 1 → b ≡ true
is_true true e = refl
is_true false e = absurd (omega arith)

below : (n found s : ℕ) → found < 2 ^ n → bit_at found s ≡ 1 → s < n
below n found s within set =
    elim (cases_lt s n) [
      | inl low ↦ low
      | inr high ↦ absurd (omega (arith, bit_at_above found n s within high))
    ]

pub scan_of_bits : (fps : List ℕ) (byte found : ℕ) → IsScanBelow 14 fps byte found → IsScanOf fps byte found
scan_of_bits fps byte found all = record {
  set = λ s low same. all.compared s low ∙ ap (λ b. cond b 1 0) (eq-eqb (get_or fps s 0) byte same);
  only_slots = λ s set. below 14 found s all.within set;
  only_byte = λ s set.
      eqb-true (get_or fps s 0) byte (is_true _ (sym (all.compared s (below 14 found s all.within set)) ∙ set));
}

-- ---- the plain loop, slot by slot

-- `found | 1 << n` at 16 bits has n, where the loop has come to n
pub found_more : (n : ℕ) (fps : List ℕ) (byte found : ℕ) → n < 14 → IsScanBelow n fps byte found → get_or fps n 0 ≡ byte
    → IsScanBelow (n + 1) fps byte (bit_or found (1 * 2 ^ n % 65536))
found_more n fps byte found low all same =
    let power : 1 * 2 ^ n % 65536 ≡ 2 ^ n = one_shl n 16 (omega arith) in
    let more : 2 ^ n < 2 ^ (n + 1) = pow_below n (n + 1) (omega arith) in
    let whole : found < 2 ^ (n + 1) = omega (arith, all.within) in
    record {
      within = or_lt (n + 1) found _ whole (rw power more);
      compared = below_more _ _
          (λ s less. let other : s ≢ n = omega arith in bit_at_set_other w16 found n (omega arith) s other ∙ all.compared s less)
          (bit_at_set_same w16 found n (omega arith) ∙ sym (ap (λ b. cond b 1 0) (eq-eqb (get_or fps n 0) byte same)));
    }

differs : (a b : ℕ) → a ≢ b → ◌≡◌ {A = ℕ} (cond (eqb a b) 1 0) 0
differs a b other = grind arith

pub found_no_more : (n : ℕ) (fps : List ℕ) (byte found : ℕ) → IsScanBelow n fps byte found → get_or fps n 0 ≢ byte
    → IsScanBelow (n + 1) fps byte found
found_no_more n fps byte found all other =
    let more : 2 ^ n < 2 ^ (n + 1) = pow_below n (n + 1) (omega arith) in
    record {
      within = omega (arith, all.within);
      compared = below_more _ _ all.compared (bit_at_above found n n all.within (omega arith) ∙ sym (differs _ byte other));
    }

-- ---- fingerprints and a byte have one scan

one_bit : (fps : List ℕ) (byte a b s : ℕ) → IsScanOf fps byte a → IsScanOf fps byte b → bit_at a s ≡ 1 → bit_at b s ≡ 1
one_bit fps byte a b s of_a of_b set = of_b.set s (of_a.only_slots s set) (of_a.only_byte s set)

pub scan_is_determined : ScanIsDetermined
scan_is_determined fps byte a b of_a of_b =
    same_from_bits a b (λ s.
    elim (cases_lt (bit_at a s) 1) [
      | inl clear ↦ elim (cases_lt (bit_at b s) 1) [
        | inl both ↦ omega arith
        | inr set ↦ omega (arith, bit_at-lt b s, one_bit fps byte b a s of_b of_a (omega (arith, bit_at-lt b s)))
      ]
      | inr set ↦ omega (arith, bit_at-lt a s, one_bit fps byte a b s of_a of_b (omega (arith, bit_at-lt a s)))
    ])
