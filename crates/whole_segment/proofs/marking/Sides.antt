-- Each record of a segment stands in the copy or in the rest, by whether it is covered.
use Rattle.std.proofs.Common.{◌≡◌, ℕ, ◌^◌, ◌<◌, sym, ◌∙◌, subst, inl, inr, arith}
use Rattle.std.proofs.lemmas.Bool.{cases_eq}
use Rattle.std.proofs.lemmas.Nat.Bits.{bit_at-lt}
use Rattle.word_bits.specs.Bits.{bit}
use Rattle.bucket_meta.specs.Marks.{copied_mark, cleared_mark}
use Rattle.hash_word.specs.Hash.{Covers}
use Rattle.whole_segment.specs.Slots.{IsSetOf, AreHalves}
use Rattle.whole_segment.specs.Records.{Stands, IsCovered, AreSides}
use Rattle.whole_segment.proofs.marking.MarkHalves.{are_halves}

module _ (first covered : ℕ → ℕ) (key : ℕ → ℕ → ℕ) (hash : ℕ → ℕ) (depth pattern : ℕ) (word : (b : ℕ) → first b < 2 ^ 64)
    (are : (b : ℕ) → b < 66 → IsSetOf (IsCovered first key hash depth pattern b) (covered b)) where
  abbrev copy : ℕ → ℕ
  copy b = copied_mark (first b) (covered b)

  abbrev rest : ℕ → ℕ
  rest b = cleared_mark (first b) (covered b)

  halves : (b : ℕ) → b < 66 → AreHalves (first b) (covered b) (copy b) (rest b)
  halves b low = are_halves (first b) (covered b) (word b) (are b low).within

  is_bit : (b r : ℕ) → (bit r (covered b) ≡ 1 → ⊥) → bit r (covered b) ≡ 0
  is_bit b r not = let small = bit_at-lt (covered b) r in omega (arith, small, not)

  -- ---- a record that stands, and whether its slot is in the set
  on_if : (b r k : ℕ) → Stands first key b r k → Covers depth pattern (hash k) → bit r (covered b) ≡ 1
  on_if b r k s covers =
      ((are b s.bucket).each r s.slot).1 (record { taken = s.taken; covers = subst (λ x. Covers depth pattern (hash x)) (sym s.has_key) covers })

  covers_if : (b r k : ℕ) → Stands first key b r k → bit r (covered b) ≡ 1 → Covers depth pattern (hash k)
  covers_if b r k s on = subst (λ x. Covers depth pattern (hash x)) s.has_key (((are b s.bucket).each r s.slot).0 on).covers

  to_copy : (b r k : ℕ) → Stands first key b r k × Covers depth pattern (hash k) → Stands copy key b r k
  to_copy b r k (s, covers) =
      let same = ((halves b s.bucket).moved r s.slot (on_if b r k s covers)).0 in
      record { bucket = s.bucket; slot = s.slot; taken = same.taken ∙ s.taken; has_key = s.has_key }

  from_copy : (b r k : ℕ) → Stands copy key b r k → Stands first key b r k × Covers depth pattern (hash k)
  from_copy b r k s = elim (cases_eq (bit r (covered b)) 1) [
    | inl on ↦
        let same = ((halves b s.bucket).moved r s.slot on).0 in
        let stands : Stands first key b r k = record { bucket = s.bucket; slot = s.slot; taken = sym same.taken ∙ s.taken; has_key = s.has_key } in
        (stands, covers_if b r k stands on)
    | inr not ↦ absurd (let gone = ((halves b s.bucket).stayed r s.slot (is_bit b r not)).0.taken in let there = s.taken in omega (arith, gone, there))
  ]

  to_rest : (b r k : ℕ) → Stands first key b r k × (Covers depth pattern (hash k) → ⊥) → Stands rest key b r k
  to_rest b r k (s, foreign) =
      let same = ((halves b s.bucket).stayed r s.slot (is_bit b r (λ on. foreign (covers_if b r k s on)))).1 in
      record { bucket = s.bucket; slot = s.slot; taken = same.taken ∙ s.taken; has_key = s.has_key }

  from_rest : (b r k : ℕ) → Stands rest key b r k → Stands first key b r k × (Covers depth pattern (hash k) → ⊥)
  from_rest b r k s = elim (cases_eq (bit r (covered b)) 1) [
    | inl on ↦ absurd (let gone = ((halves b s.bucket).moved r s.slot on).1.taken in let there = s.taken in omega (arith, gone, there))
    | inr not ↦
        let same = ((halves b s.bucket).stayed r s.slot (is_bit b r not)).1 in
        let stands : Stands first key b r k = record { bucket = s.bucket; slot = s.slot; taken = sym same.taken ∙ s.taken; has_key = s.has_key } in
        (stands, λ covers. not (on_if b r k stands covers))
  ]

  pub are_sides : AreSides first copy rest key hash depth pattern
  are_sides = record {
    copied = λ b r k. (from_copy b r k, to_copy b r k);
    stayed = λ b r k. (from_rest b r k, to_rest b r k);
  }
