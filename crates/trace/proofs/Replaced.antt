-- What words are with one replaced, by the cases of the test of its number.
use Rattle.std.proofs.Common.{◌≡◌, ℕ, inl, inr, Bool, true, false, cond, refl, sym, ap, subst, eqb}
use Rattle.std.proofs.lemmas.Bool.{cases_Bool, eqb-true, eqb-false, eq-eqb, ne_eqb}
use mathlib.Core.Path.{fun_ext}
use Rattle.trace.specs.Events.{Words, with_word}

-- what holds at both outcomes of a test of two numbers holds at the test
pub cases_at : (P : Bool → Type 0) (i j : ℕ) → ((i ≡ j) → P true) → ((i ≡ j → ⊥) → P false) → P (eqb i j)
cases_at P i j same other = elim (cases_Bool (eqb i j)) [
  | inl h ↦ subst P (sym h) (same (eqb-true i j h))
  | inr h ↦ subst P (sym h) (other (eqb-false i j h))
]

pub replaced_same : (words : Words) (i x : ℕ) → with_word words i x i ≡ x
replaced_same words i x = ap (λ b. cond b x (words i)) (eq-eqb i i refl)

pub replaced_other : (words : Words) (i x j : ℕ) → (j ≡ i → ⊥) → with_word words i x j ≡ words j
replaced_other words i x j h = ap (λ b. cond b x (words j)) (ne_eqb j i h)

-- a word that gets the value it had
pub replaced_self : (words : Words) (i : ℕ) → with_word words i (words i) ≡ words
replaced_self words i = fun_ext (λ j. cases_at (λ b. cond b (words i) (words j) ≡ words j) j i (λ e. ap words (sym e)) (λ _. refl))

-- a word replaced twice is replaced by the later value
pub replaced_twice : (words : Words) (i x y : ℕ) → with_word (with_word words i x) i y ≡ with_word words i y
replaced_twice words i x y =
    fun_ext (λ j. cases_at (λ b. cond b y (cond b x (words j)) ≡ cond b y (words j)) j i (λ _. refl) (λ _. refl))

-- words whose word i is x are what they are with it replaced by anything and then by x
pub replaced_back : (words : Words) (i x y : ℕ) → words i ≡ x → words ≡ with_word (with_word words i y) i x
replaced_back words i x y h =
    fun_ext (λ j. cases_at (λ b. words j ≡ cond b x (cond b y (words j))) j i (λ e. subst (λ k. words k ≡ x) (sym e) h) (λ _. refl))
