-- What holds of the elements of a list, and of a filtered one, said by membership.
use Rattle.std.proofs.Common.{◌≡◌, ℕ, zero, suc, ◌<◌, ◌≤◌, inl, inr, Bool, true, false, not, cond, ◌&&◌, eqb, List, [], ◌∷◌, length, get_or, refl, sym, ◌∙◌, ap, subst, arith, filter}
use Rattle.std.specs.Prelude.{All, Any, AllPairs, Contains}
use Rattle.std.proofs.lemmas.Bool.{cases_Bool, eqb-true, eq-eqb, ne_eqb}
use Rattle.trace.proofs.Listed.{has_of_contains, contains_of_has}
use Rattle.trace.specs.Listed.{Has}

-- ---- all elements

pub has_at : {X : Type 0} (xs : List X) (k : ℕ) (d : X) → k < length xs → Has (get_or xs k d) xs
has_at [] k d h = absurd (omega arith)
has_at (x ∷ xs) zero d h = inl refl
has_at (x ∷ xs) (suc k) d h = inr (has_at xs k d (omega arith))

pub all_of_has : {X : Type 0} (P : X → Type 0) (xs : List X) → ((x : X) → Has x xs → P x) → All P xs
all_of_has P xs each k d h = each (get_or xs k d) (has_at xs k d h)

pub has_of_all : {X : Type 0} (P : X → Type 0) (xs : List X) → All P xs → (x : X) → Has x xs → P x
has_of_all P xs all x h =
    let c : Contains xs x = contains_of_has x xs h in
    subst P c.2 (all c.0 x c.1)

pub any_of_has : {X : Type 0} (P : X → Type 0) (xs : List X) (x : X) → Has x xs → P x → Any P xs
any_of_has P xs x h p =
    let c : Contains xs x = contains_of_has x xs h in
    (c.0, x, c.1, c.2, p)

pub has_of_any : {X : Type 0} (P : X → Type 0) (xs : List X) → Any P xs → (x : X) × Has x xs × P x
has_of_any P xs a = (a.1, has_of_contains a.1 xs (a.0, a.2, a.3), a.4)

-- ---- pairs of elements

pub pairs_head : {X : Type 0} (R : X → X → Type 0) (x : X) (xs : List X) → AllPairs R (x ∷ xs) → (y : X) → Has y xs → R x y
pairs_head R x xs pairs y h =
    let c : Contains xs y = contains_of_has y xs h in
    subst (λ z. R x z) c.2 (pairs 0 (suc c.0) y (omega arith) (omega (arith, c.1)))

pub pairs_tail : {X : Type 0} (R : X → X → Type 0) (x : X) (xs : List X) → AllPairs R (x ∷ xs) → AllPairs R xs
pairs_tail R x xs pairs i j d h k = pairs (suc i) (suc j) d (omega arith) (omega arith)

-- pairs that are related are related by what that implies of elements
pub pairs_same : {X : Type 0} (R S : X → X → Type 0) (xs : List X) → ((x y : X) → Has x xs → Has y xs → R x y → S x y) → AllPairs R xs → AllPairs S xs
pairs_same R S xs same pairs i j d h k =
    same (get_or xs i d) (get_or xs j d) (has_at xs i d (omega arith)) (has_at xs j d k) (pairs i j d h k)

-- ---- filters

-- the first element of a filtered list, or the rest
has_kept : {X : Type 0} (p : X → Bool) (x : X) (xs : List X) (y : X) → Has x (filter p xs) → Has x (filter p (y ∷ xs))
has_kept p x xs y h = elim (cases_Bool (p y)) [
  | inl t ↦ subst (λ b. Has x (cond b (y ∷ filter p xs) (filter p xs))) (sym t) (inr h)
  | inr f ↦ subst (λ b. Has x (cond b (y ∷ filter p xs) (filter p xs))) (sym f) h
]

pub has_filter : {X : Type 0} (p : X → Bool) (x : X) (xs : List X) → Has x xs → p x ≡ true → Has x (filter p xs)
has_filter p x [] h t = absurd h
has_filter p x (y ∷ xs) h t = elim h [
  | inl e ↦ let passes : p y ≡ true = subst (λ z. p z ≡ true) e t in
      subst (λ b. Has x (cond b (y ∷ filter p xs) (filter p xs))) (sym passes) (inl e)
  | inr q ↦ has_kept p x xs y (has_filter p x xs q t)
]

pub filter_has : {X : Type 0} (p : X → Bool) (x : X) (xs : List X) → Has x (filter p xs) → Has x xs × (p x ≡ true)
filter_has p x [] h = absurd h
filter_has p x (y ∷ xs) h = elim (cases_Bool (p y)) [
  | inl t ↦ elim (subst (λ b. Has x (cond b (y ∷ filter p xs) (filter p xs))) t h) [
    | inl e ↦ (inl e, subst (λ z. p z ≡ true) (sym e) t)
    | inr q ↦ let r : Has x xs × (p x ≡ true) = filter_has p x xs q in (inr r.0, r.1)
  ]
  | inr f ↦ let r : Has x xs × (p x ≡ true) = filter_has p x xs (subst (λ b. Has x (cond b (y ∷ filter p xs) (filter p xs))) f h) in (inr r.0, r.1)
]

-- filtered once more a list is no longer
pub filter_fewer : {X : Type 0} (p q : X → Bool) (xs : List X) → length (filter p (filter q xs)) ≤ length (filter p xs)
filter_fewer p q [] = omega arith
filter_fewer p q (x ∷ xs) =
    let fewer : length (filter p (filter q xs)) ≤ length (filter p xs) = filter_fewer p q xs in
    let P : Bool → Type 0 = λ b. length (filter p (cond b (x ∷ filter q xs) (filter q xs))) ≤ length (cond (p x) (x ∷ filter p xs) (filter p xs)) in
    let Q : Bool → Type 0 = λ b. length (cond b (x ∷ filter p (filter q xs)) (filter p (filter q xs))) ≤ length (cond b (x ∷ filter p xs) (filter p xs)) in
    let R : Bool → Type 0 = λ b. length (filter p (filter q xs)) ≤ length (cond b (x ∷ filter p xs) (filter p xs)) in
    elim (cases_Bool (q x)) [
      | inl t ↦ subst P (sym t) (elim (cases_Bool (p x)) [ inl s ↦ subst Q (sym s) (omega arith) | inr s ↦ subst Q (sym s) fewer ])
      | inr f ↦ subst P (sym f) (elim (cases_Bool (p x)) [ inl s ↦ subst R (sym s) (omega arith) | inr s ↦ subst R (sym s) fewer ])
    ]

-- a list filtered by what none passes is empty
pub filter_none : {X : Type 0} (p : X → Bool) (xs : List X) → ((x : X) → Has x xs → p x ≡ false) → filter p xs ≡ []
filter_none p [] none = refl
filter_none p (x ∷ xs) none =
    ap (λ b. cond b (x ∷ filter p xs) (filter p xs)) (none x (inl refl)) ∙ filter_none p xs (λ y h. none y (inr h))

-- ---- tests of numbers

pub not_true : (i j : ℕ) → not (eqb i j) ≡ true → i ≡ j → ⊥
not_true i j t e = let f : not (eqb i j) ≡ false = ap not (eq-eqb i j e) in cc

pub not_is : (i j : ℕ) → (i ≡ j → ⊥) → not (eqb i j) ≡ true
not_is i j n = ap not (ne_eqb i j n)

pub both_true : (i j k l : ℕ) → (eqb i j && eqb k l) ≡ true → (i ≡ j) × (k ≡ l)
both_true i j k l t = elim (cases_Bool (eqb i j)) [
  | inl s ↦ (eqb-true i j s, eqb-true k l (sym (ap (λ b. b && eqb k l) s) ∙ t))
  | inr s ↦ let f : (eqb i j && eqb k l) ≡ false = ap (λ b. b && eqb k l) s in cc
]

pub both_is : (i j k l : ℕ) → i ≡ j → k ≡ l → (eqb i j && eqb k l) ≡ true
both_is i j k l e q = ap (λ b. b && eqb k l) (eq-eqb i j e) ∙ eq-eqb k l q

pub one_other : (i j k l : ℕ) → ((i ≡ j) × (k ≡ l) → ⊥) → not (eqb i j && eqb k l) ≡ true
one_other i j k l n = elim (cases_Bool (eqb i j && eqb k l)) [
  | inl t ↦ absurd (n (both_true i j k l t))
  | inr f ↦ ap not f
]
