-- Membership of a list by its first element and the rest: it is the library's, and what two lists joined have is what either has.
use Rattle.std.proofs.Common.{◌≡◌, ◌⊎◌, ℕ, zero, suc, ◌<◌, inl, inr, List, [], ◌∷◌, ◌++◌, length, get_or, sym, arith}
use Rattle.std.specs.Prelude.{Contains}
use Rattle.trace.specs.Listed.{Has}

at_index : {X : Type 0} (x : X) (xs : List X) (k : ℕ) → k < length xs → get_or xs k x ≡ x → Has x xs
at_index x [] k h e = absurd (omega arith)
at_index x (y ∷ ys) zero h e = inl (sym e)
at_index x (y ∷ ys) (suc k) h e = inr (at_index x ys k (omega arith) e)

pub has_of_contains : {X : Type 0} (x : X) (xs : List X) → Contains xs x → Has x xs
has_of_contains x xs h = at_index x xs h.0 h.1 h.2

pub contains_of_has : {X : Type 0} (x : X) (xs : List X) → Has x xs → Contains xs x
contains_of_has x [] h = absurd h
contains_of_has x (y ∷ ys) h = elim h [
  | inl e ↦ (0, omega arith, sym e)
  | inr q ↦ let p : Contains ys x = contains_of_has x ys q in (suc p.0, omega arith, p.2)
]

-- ---- two lists joined
pub has_append_left : {X : Type 0} (x : X) (xs ys : List X) → Has x xs → Has x (xs ++ ys)
has_append_left x [] ys h = absurd h
has_append_left x (z ∷ xs) ys h = elim h [ inl e ↦ inl e | inr q ↦ inr (has_append_left x xs ys q) ]

pub has_append_right : {X : Type 0} (x : X) (xs ys : List X) → Has x ys → Has x (xs ++ ys)
has_append_right x [] ys h = h
has_append_right x (z ∷ xs) ys h = inr (has_append_right x xs ys h)

pub has_append_cases : {X : Type 0} (x : X) (xs ys : List X) → Has x (xs ++ ys) → Has x xs ⊎ Has x ys
has_append_cases x [] ys h = inr h
has_append_cases x (z ∷ xs) ys h = elim h [
  | inl e ↦ inl (inl e)
  | inr q ↦ elim (has_append_cases x xs ys q) [ inl r ↦ inl (inr r) | inr r ↦ inr r ]
]
