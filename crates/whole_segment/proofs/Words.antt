-- Words that are listed by their numbers.
use Rattle.std.proofs.Common.{◌≡◌, ℕ, ◌^◌, ◌<◌, List, length, slice_index, inl, inr, sym, ◌∙◌, subst, arith}
use Rattle.std.proofs.lemmas.Bool.{cases_lt}
use Rattle.std.proofs.lemmas.List.{get_or_past}
use Rattle.std.proofs.lemmas.List.FromFn.{length-map-range_with_len, get_or-map-range_with_len}
use Rattle.std.proofs.lemmas.Grind.{same_number_lists}
use Rattle.whole_segment.specs.Words.{words_by}

module _ (n : ℕ) (word : ℕ → ℕ) where
  pub words_long : length (words_by n word) ≡ n
  unfolding words_by
  words_long = length-map-range_with_len word 0 n

  pub word_is : (i : ℕ) → i < n → slice_index (words_by n word) i ≡ word i
  unfolding words_by
  word_is i low = get_or-map-range_with_len word 0 n i i 0 low (omega arith)

  -- each is small where each that is listed is; behind the list all are 0
  pub words_small : ((i : ℕ) → i < n → word i < 2 ^ 64) → (i : ℕ) → slice_index (words_by n word) i < 2 ^ 64
  words_small small i = elim (cases_lt i n) [
    | inl low ↦ subst (λ (w : ℕ). w < 2 ^ 64) (sym (word_is i low)) (small i low)
    | inr past ↦ (let long = words_long in subst (λ (w : ℕ). w < 2 ^ 64) (sym (get_or_past (words_by n word) i 0 (omega (arith, long, past)))) (omega arith))
  ]

  -- A LIST with these words is that one
  pub same_words : (list : List ℕ) → length list ≡ n → ((i : ℕ) → i < n → slice_index list i ≡ word i) → list ≡ words_by n word
  same_words list long same =
      same_number_lists list (words_by n word) (long ∙ sym words_long) (λ i low. (let near : i < n = omega (arith, long, low) in same i near ∙ sym (word_is i near)))
