-- Callers and views place by place, where one of each is changed.
use Rattle.std.proofs.Common.{◌≡◌, ℕ, zero, suc, List, [], ◌∷◌, ◌++◌, length, slice_get, slice_set, Some, inl, inr, ◌⊎◌, ap, sym, subst, arith, refl, length-append}
use Rattle.std.specs.List.{AllZip}
use Rattle.std.proofs.lemmas.Option.{none-some, same_Some}
use mathlib.Core.Option.{some-injective}
use Rattle.world.specs.Views.{View, At}
use Rattle.world.specs.World.{changed_at}

module _ {A : Type 0} (R : A → View → Type 0) where
  pub zip_at : (xs : List A) (views : List View) (j : ℕ) (x : A) → AllZip R xs views → slice_get xs j ≡ Some x → (v : View) × At views j v × R x v
  zip_at [] views j x all is = absurd (none-some x is)
  zip_at (y ∷ xs) [] j x all is = absurd all
  zip_at (y ∷ xs) (v ∷ views) zero x all is = (v, refl, subst (λ z. R z v) (same_Some y x is) all.0)
  zip_at (y ∷ xs) (v ∷ views) (suc j) x all is = zip_at xs views j x all.1 is

  pub zip_set : (xs : List A) (views : List View) (j : ℕ) (x : A) (v : View) (change : View → View) → AllZip R xs views → At views j v → R x (change v)
      → AllZip R (slice_set xs j x) (changed_at j change views)
  zip_set [] [] j x v change all at r = tt
  zip_set [] (w ∷ views) j x v change all at r = absurd all
  zip_set (y ∷ xs) [] j x v change all at r = absurd all
  zip_set (y ∷ xs) (w ∷ views) zero x v change all at r = (subst (λ z. R x (change z)) (sym (some-injective w v at)) r, all.1)
  zip_set (y ∷ xs) (w ∷ views) (suc j) x v change all at r = (all.0, zip_set xs views j x v change all.1 at r)

pub one_more : {A : Type 0} (xs : List A) (x : A) → length (xs ++ x ∷ []) ≡ suc (length xs)
one_more xs x = let l = length-append xs (x ∷ []) in omega (arith, l)

-- the caller at a place after one was changed: the changed one, or the one that was there
pub set_cases : {A : Type 0} (xs : List A) (j i : ℕ) (x y : A) → slice_get (slice_set xs j x) i ≡ Some y → ((i ≡ j) × (x ≡ y)) ⊎ (slice_get xs i ≡ Some y)
set_cases [] j i x y is = inr is
set_cases (z ∷ xs) zero zero x y is = inl (refl, same_Some x y is)
set_cases (z ∷ xs) zero (suc i) x y is = inr is
set_cases (z ∷ xs) (suc j) zero x y is = inr is
set_cases (z ∷ xs) (suc j) (suc i) x y is = elim (set_cases xs j i x y is) [ inl p ↦ inl (ap suc p.0, p.1) | inr r ↦ inr r ]
