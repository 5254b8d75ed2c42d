-- Which word is copied next: one step of the search, and what it finds.
use Rattle.std.proofs.Common.{◌≡◌, ℕ, zero, suc, ◌+◌, ◌-◌, ◌<◌, ◌≤◌, ◌⊎◌, Bool, true, false, List, inl, inr, refl, sym, ap, subst, ◌∙◌, arith}
use Rattle.std.specs.Prelude.{if◌then◌else◌}
use Rattle.image_layout.specs.Places.{segment_words}
use Rattle.std.proofs.lemmas.Bool.{cases_lt, cond_both}
use Rattle.split_op.specs.Batches.{is_copied, seek, copied_from}

module _ (words : List ℕ) where
  pub seek_on : (n : ℕ) → n < segment_words → is_copied words n ≡ false → seek words n (segment_words - n) ≡ seek words (n + 1) (segment_words - (n + 1))
  unfolding seek
  seek_on n low none =
      let one : segment_words - n ≡ suc (segment_words - (n + 1)) = omega (arith, low) in
      ap (seek words n) one ∙ ap (λ (b : Bool). if b then n else seek words (n + 1) (segment_words - (n + 1))) none

  pub seek_here : (n : ℕ) → n < segment_words → is_copied words n ≡ true → seek words n (segment_words - n) ≡ n
  unfolding seek
  seek_here n low is =
      let one : segment_words - n ≡ suc (segment_words - (n + 1)) = omega (arith, low) in
      ap (seek words n) one ∙ ap (λ (b : Bool). if b then n else seek words (n + 1) (segment_words - (n + 1))) is

  pub seek_end : (n : ℕ) → segment_words ≤ n → seek words n (segment_words - n) ≡ segment_words
  unfolding seek
  seek_end n high = let none : segment_words - n ≡ 0 = omega (arith, high) in ap (seek words n) none

  -- one step
  pub seek_none : (i : ℕ) → seek words i 0 ≡ segment_words
  unfolding seek
  seek_none i = refl

  pub seek_one : (n i : ℕ) → seek words i (suc n) ≡ (if is_copied words i then i else seek words (i + 1) n)
  unfolding seek
  seek_one n i = refl

  -- what is found is copied, or all was looked at; none before it is copied; and it is none before the first that was looked at
  abbrev IsFound : ℕ → Type 0
  IsFound z = ((z < segment_words) × (is_copied words z ≡ true)) ⊎ (segment_words ≤ z)

  pub found_by : (n i : ℕ) → i + n ≡ segment_words → IsFound (seek words i n)
  found_by zero i e = subst IsFound (sym (seek_none i)) (inr (omega arith))
  found_by (suc n) i e = subst IsFound (sym (seek_one n i)) (cond_both (is_copied words i) i (seek words (i + 1) n) IsFound (λ is. inl (omega (arith, e), is)) (λ _. found_by n (i + 1) (omega (arith, e))))

  pub seek_from : (n i : ℕ) → i + n ≡ segment_words → i ≤ seek words i n
  seek_from zero i e = subst (λ (z : ℕ). i ≤ z) (sym (seek_none i)) (omega (arith, e))
  seek_from (suc n) i e = subst (λ (z : ℕ). i ≤ z) (sym (seek_one n i))
      (cond_both (is_copied words i) i (seek words (i + 1) n) (λ (z : ℕ). i ≤ z) (λ _. omega arith) (λ _. let more = seek_from n (i + 1) (omega (arith, e)) in omega (arith, more)))

  pub none_by : (n i : ℕ) → i + n ≡ segment_words → (p : ℕ) → i ≤ p → p < seek words i n → is_copied words p ≡ false
  none_by zero i e p from to = absurd (let none = seek_none i in omega (arith, e, from, to, none))
  none_by (suc n) i e p from to =
      cond_both (is_copied words i) i (seek words (i + 1) n) (λ (z : ℕ). p < z → is_copied words p ≡ false)
      (λ _ low. absurd (omega (arith, from, low)))
      (λ is low. elim (cases_lt i p) [
        | inl more ↦ none_by n (i + 1) (omega (arith, e)) p (omega (arith, more)) low
        | inr here ↦ ap (is_copied words) (let same : p ≡ i = omega (arith, here, from) in same) ∙ is
      ])
      (subst (λ (z : ℕ). p < z) (seek_one n i) to)

  pub found_at : (i : ℕ) → i ≤ segment_words → IsFound (copied_from words i)
  found_at i most = found_by (segment_words - i) i (omega (arith, most))

  pub copied_behind : (i : ℕ) → i ≤ segment_words → i ≤ copied_from words i
  copied_behind i most = seek_from (segment_words - i) i (omega (arith, most))

  pub none_before : (i : ℕ) → i ≤ segment_words → (p : ℕ) → i ≤ p → p < copied_from words i → is_copied words p ≡ false
  none_before i most = none_by (segment_words - i) i (omega (arith, most))
