-- What the searches of a bucket's slots find.
use Rattle.std.proofs.Common.{◌≡◌, ◌==◌, ℕ, zero, suc, ◌+◌, ◌*◌, ◌<◌, ◌≤◌, inl, inr, Bool, true, false, cond, Option, Some, None, List, refl, sym, ◌∙◌, ap, subst, arith, slice_index}
use Rattle.std.specs.Prelude.{not}
use Rattle.std.proofs.lemmas.Bool.{cases_eq, eq-eqb, eqb-false, eqb-true, and_parts, and_from, not-true, true≢false}
use Rattle.bucket_meta.specs.Bucket.{allocated}
use Rattle.bucket_meta.specs.Search.{lowest_among, is_taken, is_there, IsThere, lowest_with, lowest_free}

-- what a search finds, of numbers at to m - 1
module _ (holds : ℕ → Bool) where
  abbrev pub Finds : ℕ → ℕ → Option ℕ → Type 0
  Finds at m (Some s) = (holds s ≡ true) × (s < m) × ((t : ℕ) → at ≤ t → t < s → holds t ≡ false)
  Finds at m None = (t : ℕ) → at ≤ t → t < m → holds t ≡ false

  -- from a number on, where it does not hold of that, nor of those behind it
  from_here : (at t : ℕ) → holds at ≡ false → (at + 1 ≤ t → holds t ≡ false) → at ≤ t → holds t ≡ false
  from_here at t off behind from = elim (cases_eq t at) [
    | inl same ↦ ap holds same ∙ off
    | inr apart ↦ behind (omega (arith, from, apart))
  ]

  by_test : (at m : ℕ) (rest : Option ℕ) → at < m → Finds (at + 1) m rest → (b : Bool) → holds at ≡ b → Finds at m (cond b (Some at) rest)
  by_test at m rest below next true e = (e, below, λ t from low. absurd (omega (arith, from, low)))
  by_test at m (Some s) below next false e = (next.0, next.1, λ t from low. from_here at t e (λ behind. next.2 t behind low) from)
  by_test at m None below next false e = λ t from low. from_here at t e (λ behind. next t behind low) from

  finds_from : (n at m : ℕ) → at + n ≡ m → Finds at m (lowest_among holds at n)
  unfolding lowest_among
  finds_from zero at m e = λ t from low. absurd (omega (arith, from, low, e))
  finds_from (suc n) at m e = by_test at m (lowest_among holds (at + 1) n) (omega (arith, e)) (finds_from n (at + 1) m (omega (arith, e))) (holds at) refl

  -- the whole search
  pub finds : (n : ℕ) → Finds 0 n (lowest_among holds 0 n)
  finds n = finds_from n 0 n (omega arith)

-- ---- a slot with a key
module _ (ws : List ℕ) (key : ℕ) where
  there : (s : ℕ) → is_there ws key s ≡ true → IsThere ws key s
  there s e =
      let parts = and_parts (is_taken (slice_index ws 1) s) (slice_index ws (4 + 2 * s) == key) e in
      record { taken = eqb-true (allocated s (slice_index ws 1)) 1 parts.0; has_key = eqb-true (slice_index ws (4 + 2 * s)) key parts.1 }

  not_there : (s : ℕ) → is_there ws key s ≡ false → IsThere ws key s → ⊥
  not_there s e h =
      true≢false (sym (and_from (is_taken (slice_index ws 1) s) (slice_index ws (4 + 2 * s) == key)
      (eq-eqb (allocated s (slice_index ws 1)) 1 h.taken) (eq-eqb (slice_index ws (4 + 2 * s)) key h.has_key)) ∙ e)

  pub found_with : (s : ℕ) → lowest_with ws key ≡ Some s → IsThere ws key s × (s < 14)
  found_with s is = let f = subst (Finds (is_there ws key) 0 14) is (finds (is_there ws key) 14) in (there s f.0, f.1)

  pub none_with : lowest_with ws key ≡ None → (s : ℕ) → s < 14 → IsThere ws key s → ⊥
  none_with is s low = not_there s (subst (Finds (is_there ws key) 0 14) is (finds (is_there ws key) 14) s (omega arith) low)

-- ---- a free slot
module _ (w1 : ℕ) where
  abbrev is_free : ℕ → Bool
  is_free slot = not (is_taken w1 slot)

  free : (s : ℕ) → is_free s ≡ true → allocated s w1 ≡ 0
  free s e = let off = eqb-false (allocated s w1) 1 (not-true (is_taken w1 s) e) in omega (arith, off)

  taken : (s : ℕ) (b : Bool) → is_taken w1 s ≡ b → is_free s ≡ false → allocated s w1 ≡ 1
  taken s true is e = eqb-true (allocated s w1) 1 is
  taken s false is e = absurd (true≢false (sym (ap not is) ∙ e))

  pub free_at : (s : ℕ) → lowest_free w1 ≡ Some s → (allocated s w1 ≡ 0) × (s < 14)
  free_at s is = let f = subst (Finds is_free 0 14) is (finds is_free 14) in (free s f.0, f.1)

  pub none_free : lowest_free w1 ≡ None → (s : ℕ) → s < 14 → allocated s w1 ≡ 1
  none_free is s low = taken s (is_taken w1 s) refl (subst (Finds is_free 0 14) is (finds is_free 14) s (omega arith) low)
