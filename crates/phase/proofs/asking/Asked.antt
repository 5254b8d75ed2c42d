-- The six places: each has its number; and what is said of the buckets that are asked for, before one.
use Rattle.std.proofs.Common.{◌≡◌, ◌⊎◌, ℕ, zero, suc, ◌+◌, ◌<◌, ◌≤◌, Bool, true, false, inl, inr, refl, sym, ap, ◌∙◌, subst, arith}
use Rattle.std.proofs.lemmas.Bool.{cases_eq}
use Rattle.phase.specs.declared.role.Role.{Role}
use Rattle.phase.specs.declared.role.Role.TheVariants.{Home, Probing, First, Second, Next, Previous}
use Rattle.phase.specs.Places.{is_third}
use Rattle.phase.specs.Asked.{index, asked_by, IsAskedBefore}

-- ---- one place
abbrev place_at : ℕ → Role
place_at zero = Home
place_at (suc zero) = Probing
place_at (suc (suc zero)) = First
place_at (suc (suc (suc zero))) = Second
place_at (suc (suc (suc (suc zero)))) = Next
place_at (suc (suc (suc (suc (suc n))))) = Previous

place_of : (q : Role) → place_at (index q) ≡ q
place_of Home = refl
place_of Probing = refl
place_of First = refl
place_of Second = refl
place_of Next = refl
place_of Previous = refl

pub one_place : (p q : Role) → index p ≡ index q → p ≡ q
one_place p q e = sym (place_of p) ∙ ap place_at e ∙ place_of q

pub cases_place : (p q : Role) → (p ≡ q) ⊎ (index p ≡ index q → ⊥)
cases_place p q = elim (cases_eq (index p) (index q)) [ inl e ↦ inl (one_place p q e) | inr other ↦ inr other ]

pub never : {A : Type 0} → true ≡ false → A
never e = cc

-- ---- those that are asked for
module _ (first second : Bool) where
  pub not_third : (q : Role) → asked_by first second q ≡ true → is_third q ≡ false
  not_third Next asked = never (sym asked)
  not_third Previous asked = never (sym asked)
  not_third q asked = refl

  pub few : (q : Role) → asked_by first second q ≡ true → index q < 4
  few Home asked = omega arith
  few Probing asked = omega arith
  few First asked = omega arith
  few Second asked = omega arith
  few Next asked = never (sym asked)
  few Previous asked = never (sym asked)

  pub near_asked : (q : Role) → index q < 2 → asked_by first second q ≡ true
  near_asked Home low = refl
  near_asked Probing low = refl
  near_asked q low = absurd (omega (arith, low))

  pub none_before : (q : Role) → IsAskedBefore first second 0 q → ⊥
  none_before q u = let low = u.low in omega (arith, low)

  -- with one more
  pub upto_more : (p q : Role) → IsAskedBefore first second (index p + 1) q → (q ≡ p) ⊎ IsAskedBefore first second (index p) q
  upto_more p q u = elim (cases_place q p) [
    | inl e ↦ inl e
    | inr other ↦ inr (record { low = (let low = u.low in omega (arith, low, other)); asked = u.asked })
  ]

  -- where one is not asked for, those before the next are those before it
  pub upto_less : (p q : Role) → asked_by first second p ≡ false → IsAskedBefore first second (index p + 1) q → IsAskedBefore first second (index p) q
  upto_less p q out u = elim (upto_more p q u) [
    | inl e ↦ never (sym (subst (λ (z : Role). asked_by first second z ≡ true) e u.asked) ∙ out)
    | inr r ↦ r
  ]

  pub upto_up : (k l : ℕ) (q : Role) → k ≤ l → IsAskedBefore first second k q → IsAskedBefore first second l q
  upto_up k l q le u = record { low = (let low = u.low in omega (arith, low, le)); asked = u.asked }
