-- A search that begins at a number is one look at it and the search from the next one on.
use Rattle.std.proofs.Common.{◌≡◌, ℕ, suc, Bool, true, false, ◌+◌, ◌-◌, ◌*◌, ◌<◌, ◌≤◌, cond, Some, None, List, ◌∙◌, ap, arith, slice_index, if◌then◌else◌}
use Rattle.std.specs.Prelude.{not}
use Rattle.std.proofs.lemmas.Bool.{and_from, and_left, and_right, eq-eqb, ne_eqb}
use Rattle.bucket_meta.specs.Bucket.{allocated}
use Rattle.bucket_meta.specs.Search.{lowest_among, is_taken, is_there}

module _ (m : ℕ) (holds : ℕ → Bool) (at : ℕ) where
  among_step : at < m → lowest_among holds at (m - at) ≡ (if holds at then Some at else lowest_among holds (at + 1) (m - (at + 1)))
  unfolding lowest_among
  among_step h = let e : m - at ≡ suc (m - (at + 1)) = omega arith in ap (lowest_among holds at) e

  pub among_end : m ≤ at → lowest_among holds at (m - at) ≡ None
  unfolding lowest_among
  among_end h = let e : m - at ≡ 0 = omega arith in ap (lowest_among holds at) e

  pub among_found : at < m → holds at ≡ true → lowest_among holds at (m - at) ≡ Some at
  among_found h b = among_step h ∙ ap (λ c. cond c (Some at) (lowest_among holds (at + 1) (m - (at + 1)))) b

  pub among_next : at < m → holds at ≡ false → lowest_among holds at (m - at) ≡ lowest_among holds (at + 1) (m - (at + 1))
  among_next h b = among_step h ∙ ap (λ c. cond c (Some at) (lowest_among holds (at + 1) (m - (at + 1)))) b

-- of record slots with a key
module _ (words : List ℕ) (at : ℕ) where
  pub with_end : (key : ℕ) → 14 ≤ at → lowest_among (is_there words key) at (14 - at) ≡ None
  with_end key = among_end 14 (is_there words key) at

  pub with_found : (key : ℕ) → at < 14 → allocated at (slice_index words 1) ≡ 1 → slice_index words (4 + 2 * at) ≡ key → lowest_among (is_there words key) at (14 - at) ≡ Some at
  with_found key h b k = among_found 14 (is_there words key) at h (and_from _ _ (eq-eqb _ _ b) (eq-eqb _ _ k))

  pub with_bit : (key : ℕ) → at < 14 → (allocated at (slice_index words 1) ≡ 1 → ⊥) → lowest_among (is_there words key) at (14 - at) ≡ lowest_among (is_there words key) (at + 1) (14 - (at + 1))
  with_bit key h b = among_next 14 (is_there words key) at h (and_left _ _ (ne_eqb _ _ b))

  pub with_key : (key : ℕ) → at < 14 → (slice_index words (4 + 2 * at) ≡ key → ⊥) → lowest_among (is_there words key) at (14 - at) ≡ lowest_among (is_there words key) (at + 1) (14 - (at + 1))
  with_key key h b = among_next 14 (is_there words key) at h (and_right _ _ (ne_eqb _ _ b))

-- of free ones
module _ (w1 : ℕ) (at : ℕ) where
  abbrev is_free : ℕ → Bool
  is_free slot = not (is_taken w1 slot)

  pub free_end : 14 ≤ at → lowest_among is_free at (14 - at) ≡ None
  free_end = among_end 14 is_free at

  pub free_found : at < 14 → (allocated at w1 ≡ 1 → ⊥) → lowest_among is_free at (14 - at) ≡ Some at
  free_found h b = among_found 14 is_free at h (ap not (ne_eqb _ _ b))

  pub free_next : at < 14 → allocated at w1 ≡ 1 → lowest_among is_free at (14 - at) ≡ lowest_among is_free (at + 1) (14 - (at + 1))
  free_next h b = among_next 14 is_free at h (ap not (eq-eqb _ _ b))
