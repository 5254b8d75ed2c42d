-- A set of slots is made slot by slot.
use Rattle.std.proofs.Common.{◌≡◌, ℕ, ◌+◌, ◌^◌, ◌<◌, ◌↔◌, cond, sym, ap, ◌∙◌, subst, arith, inl, inr, bit_or, lit<}
use Rattle.std.proofs.lemmas.Bool.{cases_eq, lt-ltb}
use Rattle.std.proofs.lemmas.Nat.{or_lt, pow_below}
use Rattle.std.proofs.lemmas.Nat.Bits.{bit_at_above}
use Rattle.word_bits.specs.Bits.{bit, mask}
use Rattle.word_bits.proofs.OneBit.{set_same, set_other}
use Rattle.whole_segment.specs.Slots.{IsSetOf}

-- the set has exactly those of the first n slots of which P holds
pub record IsSetBelow (P : ℕ → Type 0) (n slots : ℕ) : Type 0 where
  pub within : slots < 2 ^ n
  pub each : (r : ℕ) → r < n → (bit r slots ≡ 1) ↔ P r

pub none_yet : (P : ℕ → Type 0) → IsSetBelow P 0 0
none_yet P = record { within = lit< tt; each = λ r low. absurd (omega (arith, low)) }

module _ (P : ℕ → Type 0) (n slots : ℕ) (low : n < 14) (so_far : IsSetBelow P n slots) where
  mask_is : mask n ≡ 2 ^ n
  mask_is = ap (λ b. cond b (2 ^ n) 0) (lt-ltb n 64 (omega arith))

  pub one_more : P n → IsSetBelow P (n + 1) (bit_or slots (mask n))
  one_more here = record {
    within = or_lt (n + 1) slots (mask n) (omega (arith, so_far.within, pow_below n (n + 1) (omega arith))) (subst (λ m. m < 2 ^ (n + 1)) (sym mask_is) (pow_below n (n + 1) (omega arith)));
    each = λ r below. elim (cases_eq r n) [
      | inl same ↦ (λ _. subst P (sym same) here, λ _. ap (λ i. bit i (bit_or slots (mask n))) same ∙ set_same slots n (omega arith))
      | inr apart ↦
          let other = set_other slots n r (omega arith) apart in
          let before = so_far.each r (omega (arith, below, apart)) in
          (λ e. before.0 (sym other ∙ e), λ p. other ∙ before.1 p)
    ];
  }

  pub no_more : (P n → ⊥) → IsSetBelow P (n + 1) slots
  no_more not_here = record {
    within = omega (arith, so_far.within, pow_below n (n + 1) (omega arith));
    each = λ r below. elim (cases_eq r n) [
      | inl same ↦ (
        λ e. absurd (let off = bit_at_above slots n n so_far.within (omega arith) in let on = ap (λ i. bit i slots) (sym same) ∙ e in omega (arith, off, on)),
        λ p. absurd (not_here (subst P same p)),
      )
      | inr apart ↦ so_far.each r (omega (arith, below, apart))
    ];
  }

pub whole_set : (P : ℕ → Type 0) (n slots : ℕ) → n ≡ 14 → IsSetBelow P n slots → IsSetOf P slots
whole_set P n slots e so_far =
    let all = subst (λ m. IsSetBelow P m slots) e so_far in
    record { within = all.within; each = all.each }
