-- What a list has that is another one but for some of it.
use Rattle.std.proofs.Common.{◌≡◌, Bool, true, false, cond, List, [], ◌∷◌, inl, inr, sym, ap, ◌∙◌, subst}
use Rattle.std.proofs.lemmas.Bool.{cases_Bool}
use Rattle.std.specs.Prelude.{filter, not}
use Rattle.world.specs.Views.{Has}

-- who passes the opposite of a test does not pass it
pub not_false : (b : Bool) → not b ≡ true → b ≡ true → ⊥
not_false true e f = cc
not_false false e f = cc

module _ {A : Type 0} (test : A → Bool) where
  pub filtered_has : (l : List A) (a : A) → Has a (filter test l) → Has a l × (test a ≡ true)
  filtered_has [] a h = absurd h
  filtered_has (b ∷ l) a h = elim (cases_Bool (test b)) [
    | inl t ↦ elim (subst (λ c. Has a (cond c (b ∷ filter test l) (filter test l))) t h) [
      | inl e ↦ (inl e, ap test e ∙ t)
      | inr r ↦ (let q = filtered_has l a r in (inr q.0, q.1))
    ]
    | inr f ↦ (let q = filtered_has l a (subst (λ c. Has a (cond c (b ∷ filter test l) (filter test l))) f h) in (inr q.0, q.1))
  ]

  pub has_filtered : (l : List A) (a : A) → Has a l → test a ≡ true → Has a (filter test l)
  has_filtered [] a h is = h
  has_filtered (b ∷ l) a h is = elim h [
    | inl e ↦ subst (λ c. Has a (cond c (b ∷ filter test l) (filter test l))) (sym (ap test (sym e) ∙ is)) (inl e)
    | inr r ↦ elim (cases_Bool (test b)) [
      | inl t ↦ subst (λ c. Has a (cond c (b ∷ filter test l) (filter test l))) (sym t) (inr (has_filtered l a r is))
      | inr f ↦ subst (λ c. Has a (cond c (b ∷ filter test l) (filter test l))) (sym f) (has_filtered l a r is)
    ]
  ]
