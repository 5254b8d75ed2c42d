-- Words that are all 0.
use Rattle.std.proofs.Common.{◌≡◌, ℕ, ◌^◌, ◌<◌, replicate, slice_index, inl, inr, sym, subst, arith}
use Rattle.std.proofs.lemmas.Bool.{cases_lt}
use Rattle.std.proofs.lemmas.List.{get_or-replicate, get_or_past, length-replicate}

-- each is 0, and so is what stands behind them
pub zeros : (n i : ℕ) → slice_index (replicate n 0) i ≡ 0
zeros n i = elim (cases_lt i n) [
  | inl low ↦ get_or-replicate n i 0 0 low
  | inr high ↦ get_or_past (replicate n 0) i 0 (let all = length-replicate {A = ℕ} n 0 in omega (arith, all, high))
]

pub zeros_small : (n i : ℕ) → slice_index (replicate n 0) i < 2 ^ 64
zeros_small n i = subst (λ (z : ℕ). z < 2 ^ 64) (sym (zeros n i)) (omega arith)
