-- A bucket has a free slot, by its metadata word, exactly where fewer than fourteen slots are taken.
use Rattle.std.proofs.Common.{◌≡◌, ℕ, ◌<◌, ◌≤◌, Option, None, Some, refl, sym, ap, ◌∙◌, arith, zero-add, count_ones}
use Rattle.std.proofs.lemmas.Nat.{ones-le}
use Rattle.word_bits.specs.Bits.{bits, bit}
use Rattle.word_bits.proofs.OneBit.{bit_of_bits}
use Rattle.bucket_meta.specs.Bucket.{allocated}
use Rattle.bucket_meta.specs.Search.{lowest_free}
use Rattle.bucket_meta.proofs.FullSets.{full_is_all, all_is_full}
use Rattle.bucket_meta.proofs.Found.{free_at, none_free}

module _ (w1 : ℕ) where
  taken_is : (s : ℕ) → s < 14 → bit s (bits 0 14 w1) ≡ allocated s w1
  taken_is s low = bit_of_bits 0 14 s w1 low ∙ ap (λ i. bit i w1) (zero-add s)

  pub most_taken : count_ones (bits 0 14 w1) ≤ 14
  most_taken = ones-le 14 (bits 0 14 w1) (omega arith)

  pub all_taken : lowest_free w1 ≡ None → count_ones (bits 0 14 w1) ≡ 14
  all_taken none = full_is_all (bits 0 14 w1) (omega arith) (λ s low. taken_is s low ∙ none_free w1 none s low)

  pub none_left : count_ones (bits 0 14 w1) ≡ 14 → lowest_free w1 ≡ None
  none_left all = by (lowest_free w1) refl
    where
      by : (found : Option ℕ) → lowest_free w1 ≡ found → found ≡ None
      by None is = refl
      by (Some s) is =
          let finds = free_at w1 s is in
          let taken : allocated s w1 ≡ 1 = sym (taken_is s finds.1) ∙ all_is_full (bits 0 14 w1) (omega arith) all s finds.1 in
          let free : allocated s w1 ≡ 0 = finds.0 in
          absurd (omega (arith, taken, free))
