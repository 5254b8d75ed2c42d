-- The first number that passes a test: none before it does.
use Rattle.std.proofs.Common.{◌≡◌, ℕ, zero, suc, ◌+◌, ◌-◌, ◌<◌, ◌≤◌, Bool, true, false, inl, inr, refl, sym, ap, ◌∙◌, subst, arith}
use Rattle.std.specs.Prelude.{if◌then◌else◌}
use Rattle.std.proofs.lemmas.Bool.{cases_eq}
use Rattle.rounds.specs.Seeking.{seek}

module _ (test : ℕ → Bool) where
  pub seek_none : (from : ℕ) → seek test 0 from ≡ from
  unfolding seek
  seek_none from = refl

  pub seek_here : (n from : ℕ) → test from ≡ true → seek test (suc n) from ≡ from
  unfolding seek
  seek_here n from passes = ap (λ t. if t then from else seek test n (from + 1)) passes

  pub seek_on : (n from : ℕ) → test from ≡ false → seek test (suc n) from ≡ seek test n (from + 1)
  unfolding seek
  seek_on n from fails = ap (λ t. if t then from else seek test n (from + 1)) fails

  -- of those below a limit
  one_less : (most from : ℕ) → from < most → most - from ≡ suc (most - (from + 1))
  one_less most from low = omega (arith, low)

  pub seek_below_here : (most from : ℕ) → from < most → test from ≡ true → seek test (most - from) from ≡ from
  seek_below_here most from low passes = ap (λ n. seek test n from) (one_less most from low) ∙ seek_here (most - (from + 1)) from passes

  pub seek_below_on : (most from : ℕ) → from < most → test from ≡ false → seek test (most - from) from ≡ seek test (most - (from + 1)) (from + 1)
  seek_below_on most from low fails = ap (λ n. seek test n from) (one_less most from low) ∙ seek_on (most - (from + 1)) from fails

  pub seek_at_end : (most from : ℕ) → most ≤ from → seek test (most - from) from ≡ from
  seek_at_end most from high = let none : most - from ≡ 0 = omega (arith, high) in ap (λ n. seek test n from) none ∙ seek_none from

  -- ---- where it is
  record IsFound (n from found : ℕ) : Type 0 where
    behind : from ≤ found
    within : found ≤ from + n
    passes : found < from + n → test found ≡ true
    fails : (c : ℕ) → from ≤ c → c < found → test c ≡ false

  found_by : (n from : ℕ) → (b : Bool) → test from ≡ b → IsFound n (from + 1) (seek test n (from + 1)) → IsFound (suc n) from (seek test (suc n) from)
  found_by n from true is later = subst (IsFound (suc n) from) (sym (seek_here n from is)) (record { behind = omega arith; within = omega arith; passes = λ low. is; fails = λ c low high. absurd (omega (arith, low, high)) })
  found_by n from false is later = subst (IsFound (suc n) from) (sym (seek_on n from is)) (record {
    behind = (let behind = later.behind in omega (arith, behind));
    within = (let within = later.within in omega (arith, within));
    passes = λ low. later.passes (omega (arith, low));
    fails = λ c low high. elim (cases_eq c from) [
      | inl same ↦ ap test same ∙ is
      | inr apart ↦ later.fails c (omega (arith, low, apart)) high
    ];
  })

  found : (n from : ℕ) → IsFound n from (seek test n from)
  found zero from = subst (IsFound 0 from) (sym (seek_none from)) (record { behind = omega arith; within = omega arith; passes = λ low. absurd (omega (arith, low)); fails = λ c low high. absurd (omega (arith, low, high)) })
  found (suc n) from = found_by n from (test from) refl (found n (from + 1))

  -- THE FIRST below a limit is not before where it is sought from, nor behind the limit, and those before it fail
  pub seek_behind : (most from : ℕ) → from ≤ seek test (most - from) from
  seek_behind most from = (found (most - from) from).behind

  pub seek_within : (most from : ℕ) → from ≤ most → seek test (most - from) from ≤ most
  seek_within most from low = let within = (found (most - from) from).within in omega (arith, within, low)

  pub seek_fails : (most from c : ℕ) → from ≤ c → c < seek test (most - from) from → test c ≡ false
  seek_fails most from c low high = (found (most - from) from).fails c low high

  -- and it passes, where it is below the limit
  pub seek_passes : (most from : ℕ) → from ≤ most → seek test (most - from) from < most → test (seek test (most - from) from) ≡ true
  seek_passes most from near low = (found (most - from) from).passes (omega (arith, low, near))
