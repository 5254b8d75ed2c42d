-- Words of buckets in a list, word m of bucket b as number 32 * b + m.
use Rattle.std.proofs.Common.{◌≡◌, ◌≢◌, ℕ, ◌+◌, ◌*◌, ◌/◌, ◌%◌, ◌^◌, ◌<◌, eqb, cond, List, length, slice_index, inl, inr, sym, ap, ◌∙◌, subst, arith}
use Rattle.std.proofs.lemmas.Bool.{cases_eq, ne_eqb}
use Rattle.image_layout.specs.Places.{buckets, block, words_of_buckets}
use Rattle.whole_segment.specs.Words.{words_by}
use Rattle.whole_segment.proofs.Words.{word_is, words_long, words_small, same_words}
use Rattle.split_op.specs.Sides.{side_word, low_fingers, high_fingers, thinned_word, IsThinned}

module _ (word : ℕ → ℕ → ℕ) where
  abbrev pub listed : List ℕ
  listed = words_by words_of_buckets (λ i. word (i / block) (i % block))

  pub listed_is : (b m : ℕ) → b < buckets → m < block → side_word listed b m ≡ word b m
  listed_is b m near low = word_is words_of_buckets (λ i. word (i / block) (i % block)) (32 * b + m) (omega (arith, near, low))
      ∙ ap (λ (c : ℕ). word c ((32 * b + m) % 32)) (over b m low) ∙ ap (word b) (rest b m low)
    where
      over : (b m : ℕ) → m < block → (32 * b + m) / 32 ≡ b
      over b m low = omega (arith, low)

      rest : (b m : ℕ) → m < block → (32 * b + m) % 32 ≡ m
      rest b m low = omega (arith, low)

  pub listed_long : length listed ≡ words_of_buckets
  listed_long = words_long words_of_buckets (λ i. word (i / block) (i % block))

  pub listed_small : ((b m : ℕ) → b < buckets → m < block → word b m < 2 ^ 64) → (i : ℕ) → slice_index listed i < 2 ^ 64
  listed_small small = words_small words_of_buckets (λ i. word (i / block) (i % block)) (λ i low. small (i / block) (i % block) (omega (arith, low)) (omega arith))

  pub listed_same : (words : List ℕ) → length words ≡ words_of_buckets → ((b m : ℕ) → b < buckets → m < block → side_word words b m ≡ word b m) → words ≡ listed
  listed_same words long same = same_words words_of_buckets (λ i. word (i / block) (i % block)) words long
      (λ i low. ap (slice_index words) (parts i) ∙ same (i / block) (i % block) (omega (arith, low)) (omega arith))
    where
      parts : (i : ℕ) → i ≡ 32 * (i / 32) + i % 32
      parts i = omega arith

-- word 1, 2 or 3, or another
pub by_word : (P : ℕ → Type 0) → P 1 → P 2 → P 3 → ((m : ℕ) → m ≢ 1 → m ≢ 2 → m ≢ 3 → P m) → (m : ℕ) → P m
by_word P first second third others m = elim (cases_eq m 1) [
  | inl one ↦ subst P (sym one) first
  | inr no_one ↦ elim (cases_eq m 2) [
    | inl two ↦ subst P (sym two) second
    | inr no_two ↦ elim (cases_eq m 3) [ inl three ↦ subst P (sym three) third | inr no_three ↦ others m no_one no_two no_three ]
  ]
]

-- words 2 and 3 alone are thinned
pub thinned_other : (word : ℕ → ℕ → ℕ) (b m : ℕ) → m ≢ 2 → m ≢ 3 → thinned_word word b m ≡ word b m
thinned_other word b m no_two no_three = ap (λ t. cond t (low_fingers (word b 1) (word b 2)) (cond (eqb m 3) (high_fingers (word b 1) (word b 3)) (word b m))) (ne_eqb m 2 no_two)
    ∙ ap (λ t. cond t (high_fingers (word b 1) (word b 3)) (word b m)) (ne_eqb m 3 no_three)

-- a list that is thinned has these words
pub thinned_is : (words thin : List ℕ) (word : ℕ → ℕ → ℕ) → ((b m : ℕ) → b < buckets → m < block → side_word words b m ≡ word b m) → IsThinned words thin
    → (b m : ℕ) → b < buckets → m < block → side_word thin b m ≡ thinned_word word b m
thinned_is words thin word same is b m near low = by_word (λ k. k < block → side_word thin b k ≡ thinned_word word b k)
    (λ l. is.others b 1 near l (λ s. omega (arith, s)) (λ s. omega (arith, s)) ∙ same b 1 near l)
    (λ l. is.low b near ∙ ap (λ x. low_fingers x (side_word words b 2)) (same b 1 near (omega arith)) ∙ ap (low_fingers (word b 1)) (same b 2 near l))
    (λ l. is.high b near ∙ ap (λ x. high_fingers x (side_word words b 3)) (same b 1 near (omega arith)) ∙ ap (high_fingers (word b 1)) (same b 3 near l))
    (λ k _ no_two no_three l. is.others b k near l no_two no_three ∙ same b k near l ∙ sym (thinned_other word b k no_two no_three)) m low

-- and the list of thinned words is thinned
pub listed_thinned : (word : ℕ → ℕ → ℕ) → IsThinned (listed word) (listed (thinned_word word))
listed_thinned word = record {
  each = listed_long (thinned_word word);
  low = λ b near. listed_is (thinned_word word) b 2 near (omega arith)
      ∙ sym (ap (λ x. low_fingers x (side_word (listed word) b 2)) (listed_is word b 1 near (omega arith)) ∙ ap (low_fingers (word b 1)) (listed_is word b 2 near (omega arith)));
  high = λ b near. listed_is (thinned_word word) b 3 near (omega arith)
      ∙ sym (ap (λ x. high_fingers x (side_word (listed word) b 3)) (listed_is word b 1 near (omega arith)) ∙ ap (high_fingers (word b 1)) (listed_is word b 3 near (omega arith)));
  others = λ b m near low no_two no_three. listed_is (thinned_word word) b m near low ∙ thinned_other word b m no_two no_three ∙ sym (listed_is word b m near low);
}
