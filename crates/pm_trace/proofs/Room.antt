-- Callers 0 to n - 1 with 8 flushes each at most have 8 n at most.
use Rattle.std.proofs.Common.{◌≡◌, ℕ, zero, suc, ◌+◌, ◌*◌, ◌<◌, ◌≤◌, inl, true, not, List, [], ◌∷◌, length, refl, arith, filter, eqb}
use Rattle.std.proofs.lemmas.List.Filters.{length-filter_both}
use Rattle.trace.specs.Listed.{Has}
use Rattle.pm_trace.specs.declared.flushes.Flush.{Flush}
use Rattle.pm_trace.specs.Memory.{flushes_of}
use Rattle.pm_trace.proofs.Elements.{filter_has, filter_fewer, not_true}

pub few_in_all : (n : ℕ) (flushes : List Flush) → ((f : Flush) → Has f flushes → f.caller < n) → ((c : ℕ) → length (flushes_of c flushes) ≤ 8)
    → length flushes ≤ 8 * n
few_in_all zero [] below few = omega arith
few_in_all zero (f ∷ flushes) below few = absurd (omega (arith, below f (inl refl)))
few_in_all (suc n) flushes below few =
    let others : List Flush = filter (λ f. not (eqb f.caller n)) flushes in
    let both : length (flushes_of n flushes) + length others ≡ length flushes =
    length-filter_both (λ (f : Flush). eqb f.caller n) (λ f. not (eqb f.caller n)) (λ f. refl) flushes in
    let fewer : length others ≤ 8 * n = few_in_all n others
    (λ f h. let k : Has f flushes × (not (eqb f.caller n) ≡ true) = filter_has (λ (f : Flush). not (eqb f.caller n)) f flushes h in
    let b : f.caller < suc n = below f k.0 in
    let other : f.caller ≡ n → ⊥ = not_true f.caller n k.1 in
    omega arith)
    (λ c. let k : length (flushes_of c others) ≤ length (flushes_of c flushes) = filter_fewer (λ (f : Flush). eqb f.caller c) (λ f. not (eqb f.caller n)) flushes in
    let m : length (flushes_of c flushes) ≤ 8 = few c in
    omega arith) in
    let own : length (flushes_of n flushes) ≤ 8 = few n in
    omega arith
