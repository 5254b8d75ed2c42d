-- Lists with one place changed, lists of zeros, pairs, and sums over the views.
use Rattle.std.proofs.Common.{◌≡◌, ◌≢◌, ◌⊎◌, ℕ, zero, suc, ◌+◌, ◌≤◌, List, [], ◌∷◌, ◌++◌, set, slice_index, inl, inr, ⊎_elim, refl, sym, ap, ◌∙◌, arith}
use Rattle.std.specs.Prelude.{replicate}
use mathlib.Core.Option.{some, some-injective, some-ne-none}
use lib.ListN.{get_elem?}
use Rattle.trace.proofs.Listed.{has_append_cases}
use Rattle.world.specs.Views.{View, Has, At}
use Rattle.world.specs.Parts.{total}

module _ {A : Type 0} where
  -- an element of a list with one place changed is the new one, or stood elsewhere
  pub at_set : (l : List A) (i j : ℕ) (a b : A) → get_elem? (set l i a) j ≡ some b → ((j ≡ i) × (a ≡ b)) ⊎ ((j ≢ i) × (get_elem? l j ≡ some b))
  at_set [] i j a b e = absurd (some-ne-none b (sym e))
  at_set (x ∷ xs) zero zero a b e = inl (refl, some-injective a b e)
  at_set (x ∷ xs) zero (suc j) a b e = inr ((λ h. omega arith), e)
  at_set (x ∷ xs) (suc i) zero a b e = inr ((λ h. omega arith), e)
  at_set (x ∷ xs) (suc i) (suc j) a b e = ⊎_elim (λ t. inl (ap suc t.0, t.1)) (λ t. let n = t.0 in inr ((λ h. n (omega arith)), t.1)) (at_set xs i j a b e)

  pub set_here : (l : List A) (j : ℕ) (a b : A) → get_elem? l j ≡ some a → get_elem? (set l j b) j ≡ some b
  set_here [] j a b e = absurd (some-ne-none a (sym e))
  set_here (x ∷ xs) zero a b e = refl
  set_here (x ∷ xs) (suc j) a b e = set_here xs j a b e

  pub set_there : (l : List A) (j i : ℕ) (a b : A) → i ≢ j → get_elem? l i ≡ some a → get_elem? (set l j b) i ≡ some a
  set_there [] j i a b n e = e
  set_there (x ∷ xs) zero zero a b n e = absurd (n refl)
  set_there (x ∷ xs) zero (suc i) a b n e = e
  set_there (x ∷ xs) (suc j) zero a b n e = e
  set_there (x ∷ xs) (suc j) (suc i) a b n e = set_there xs j i a b (λ h. n (ap suc h)) e

  pub same_at : (l : List A) (j : ℕ) (a b : A) → get_elem? l j ≡ some a → get_elem? l j ≡ some b → a ≡ b
  same_at l j a b e f = some-injective a b (sym e ∙ f)

  -- an element of two lists joined is one of either
  pub has_joined : (xs ys : List A) (a : A) → Has a (xs ++ ys) → Has a xs ⊎ Has a ys
  has_joined xs ys a h = has_append_cases a xs ys h

-- pairs with the same parts are the same
pub pair_same : (a b x y : ℕ) → a ≡ b → x ≡ y → ◌≡◌ {A = ℕ × ℕ} (a, x) (b, y)
pair_same a b x y e f = cc

-- a list of zeros has 0 everywhere
pub zeros : (n i : ℕ) → slice_index (replicate n 0) i ≡ 0
zeros zero i = refl
zeros (suc n) zero = refl
zeros (suc n) (suc i) = zeros n i

module _ (f : View → ℕ) where
  -- a sum over the views after one view is another
  pub total_set : (views : List View) (j : ℕ) (v w : View) → At views j v → total f (set views j w) + f v ≡ total f views + f w
  total_set [] j v w e = absurd (some-ne-none v (sym e))
  total_set (x ∷ xs) zero v w e = omega (arith, ap f (some-injective x v e))
  total_set (x ∷ xs) (suc j) v w e = omega (arith, total_set xs j v w e)

pub total_most : (f g : View → ℕ) (views : List View) → ((i : ℕ) (v : View) → At views i v → f v ≤ g v) → total f views ≤ total g views
total_most f g [] h = omega arith
total_most f g (x ∷ xs) h = let a = h 0 x refl in let b = total_most f g xs (λ i v e. h (suc i) v e) in omega arith
