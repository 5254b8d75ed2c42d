-- How many of the numbers below a limit pass a test, one number further.
use Rattle.std.proofs.Common.{◌≡◌, ℕ, ◌+◌, Bool, true, false, ap, ◌∙◌, arith, [], ◌∷◌, length, add-one, length-append}
use Rattle.std.specs.Prelude.{filter, if◌then◌else◌}
use Rattle.std.proofs.lemmas.List.Elements.{filter-append}
use Rattle.bucket_meta.specs.Notes.{numbers_below}

abbrev pub passing : (ℕ → Bool) → ℕ → ℕ
passing test n = length (filter test (numbers_below n))

one_further : (test : ℕ → Bool) (n : ℕ) (passes : Bool) → test n ≡ passes → passing test (n + 1) ≡ passing test n + length (if passes then n ∷ [] else [])
one_further test n passes is =
    ap (passing test) (add-one n)
    ∙ ap length (filter-append test (numbers_below n) (n ∷ []))
    ∙ length-append (filter test (numbers_below n)) _
    ∙ ap (λ b. passing test n + length (if b then n ∷ [] else [])) is

pub one_more : (test : ℕ → Bool) (n : ℕ) → test n ≡ true → passing test (n + 1) ≡ passing test n + 1
one_more test n is = one_further test n true is

pub no_more : (test : ℕ → Bool) (n : ℕ) → test n ≡ false → passing test (n + 1) ≡ passing test n
no_more test n is = let step = one_further test n false is in omega (arith, step)
