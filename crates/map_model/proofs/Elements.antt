-- What holds of every element holds of each one, also after a filter, in joined lists, and beside one more element.
use Rattle.std.proofs.Common.{◌≡◌, Bool, true, false, cond, List, [], ◌∷◌, ◌++◌, length, refl, sym, ap, subst, ◌∙◌, arith, inl, inr, ◌⊎◌, suc, length-append}
use Rattle.std.proofs.lemmas.List.Elements.{filter-append}
use Rattle.std.specs.List.{AllByRecursion, filter}

-- x is an element of the list
abbrev pub Has : {X : Type 0} → List X → X → Type 0
Has [] x = ⊥
Has (y ∷ ys) x = (y ≡ x) ⊎ Has ys x

module _ {X : Type 0} (P : X → Type 0) where
  pub All-at : (xs : List X) (x : X) → AllByRecursion P xs → Has xs x → P x
  All-at [] x all h = absurd h
  All-at (y ∷ ys) x all h = elim h [ inl same ↦ subst P same all.0 | inr later ↦ All-at ys x all.1 later ]

  pub All-from_each : (xs : List X) → ((x : X) → Has xs x → P x) → AllByRecursion P xs
  All-from_each [] each = tt
  All-from_each (y ∷ ys) each = (each y (inl refl), All-from_each ys (λ x h. each x (inr h)))

module _ {X : Type 0} where
  pub Has-append_left : (xs ys : List X) (x : X) → Has xs x → Has (xs ++ ys) x
  Has-append_left [] ys x h = absurd h
  Has-append_left (z ∷ xs) ys x h = elim h [ inl same ↦ inl same | inr later ↦ inr (Has-append_left xs ys x later) ]

  pub Has-append_right : (xs ys : List X) (x : X) → Has ys x → Has (xs ++ ys) x
  Has-append_right [] ys x h = h
  Has-append_right (z ∷ xs) ys x h = inr (Has-append_right xs ys x h)

  pub Has-append_cases : (xs ys : List X) (x : X) → Has (xs ++ ys) x → Has xs x ⊎ Has ys x
  Has-append_cases [] ys x h = inr h
  Has-append_cases (z ∷ xs) ys x h = elim h [
    | inl same ↦ inl (inl same)
    | inr later ↦ elim (Has-append_cases xs ys x later) [ inl left ↦ inl (inr left) | inr right ↦ inr right ]
  ]

  -- an element of a list with e put in is e, or was there before
  pub Has-insert_cases : (xs ys : List X) (e x : X) → Has (xs ++ e ∷ ys) x → (e ≡ x) ⊎ Has (xs ++ ys) x
  Has-insert_cases [] ys e x h = h
  Has-insert_cases (z ∷ xs) ys e x h = elim h [
    | inl same ↦ inr (inl same)
    | inr later ↦ elim (Has-insert_cases xs ys e x later) [ inl new ↦ inl new | inr old ↦ inr (inr old) ]
  ]

module _ {X : Type 0} (p : X → Bool) where
  -- a filter keeps exactly the elements that pass
  pub Has-filter : (xs : List X) (x : X) → p x ≡ true → Has xs x → Has (filter p xs) x
  Has-filter [] x passes h = absurd h
  Has-filter (y ∷ ys) x passes h =
      elim (p y) as (λ b. p y ≡ b → Has (cond b (y ∷ filter p ys) (filter p ys)) x) [
        | true ↦ λ head. elim h [ inl same ↦ inl same | inr later ↦ inr (Has-filter ys x passes later) ]
        | false ↦ λ head. elim h [ inl same ↦ (let passes_too = subst (λ z. p z ≡ true) (sym same) passes in cc) | inr later ↦ Has-filter ys x passes later ]
      ] refl

  pub Has-filter_parts : (xs : List X) (x : X) → Has (filter p xs) x → (p x ≡ true) × Has xs x
  Has-filter_parts [] x h = absurd h
  Has-filter_parts (y ∷ ys) x h =
      elim (p y) as (λ b. p y ≡ b → Has (cond b (y ∷ filter p ys) (filter p ys)) x → (p x ≡ true) × ((y ≡ x) ⊎ Has ys x)) [
        | true ↦ λ passes kept. elim kept [
          | inl same ↦ (subst (λ z. p z ≡ true) same passes, inl same)
          | inr later ↦ (let parts = Has-filter_parts ys x later in (parts.0, inr parts.1))
        ]
        | false ↦ λ fails kept. let parts = Has-filter_parts ys x kept in (parts.0, inr parts.1)
      ] refl h

  -- one more element that fails, and one that passes
  pub filter-insert_failing : (xs ys : List X) (e : X) → p e ≡ false → filter p (xs ++ e ∷ ys) ≡ filter p (xs ++ ys)
  filter-insert_failing xs ys e fails =
      filter-append p xs (e ∷ ys)
      ∙ ap (λ b. filter p xs ++ cond b (e ∷ filter p ys) (filter p ys)) fails
      ∙ sym (filter-append p xs ys)

  pub length-filter-insert_passing : (xs ys : List X) (e : X) → p e ≡ true → length (filter p (xs ++ e ∷ ys)) ≡ suc (length (filter p (xs ++ ys)))
  length-filter-insert_passing xs ys e passes =
      let with_e = ap length (filter-append p xs (e ∷ ys) ∙ ap (λ b. filter p xs ++ cond b (e ∷ filter p ys) (filter p ys)) passes) ∙ length-append (filter p xs) (e ∷ filter p ys) in
      let without = ap length (filter-append p xs ys) ∙ length-append (filter p xs) (filter p ys) in
      omega (arith, with_e, without)
