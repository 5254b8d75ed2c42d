-- What a view's notes are after a step, note by note.
use Rattle.std.proofs.Common.{◌≡◌, ◌⊎◌, ℕ, Bool, true, false, cond, ◌&&◌, eqb, List, [], ◌∷◌, inl, inr, refl, sym, ap, ◌∙◌, subst}
use Rattle.std.proofs.lemmas.Bool.{cases_Bool, eqb-true, and_parts}
use Rattle.trace.specs.Events.{Words}
use Rattle.world.specs.Views.{Glance, Has}
use Rattle.world.specs.Parts.{IsUnmoved}
use Rattle.world.specs.Kinds.{with_noted, unmarked, marked, all_again}

-- ---- one word more
pub noted_from : (lock i x : ℕ) (notes : List Glance) (o : Glance) → Has o (with_noted lock i x notes)
    → (n : Glance) × Has n notes × ((o ≡ n) ⊎ ((n.word ≡ lock) × (o ≡ record n { words = (i, x) ∷ n.words })))
noted_from lock i x [] o h = absurd h
noted_from lock i x (n ∷ notes) o h = elim h [
  | inl e ↦ elim (cases_Bool (eqb n.word lock)) [
    | inl t ↦ (n, inl refl, inr (eqb-true n.word lock t, e ∙ ap (λ b. cond b (record n { words = (i, x) ∷ n.words }) n) t))
    | inr f ↦ (n, inl refl, inl (e ∙ ap (λ b. cond b (record n { words = (i, x) ∷ n.words }) n) f))
  ]
  | inr r ↦ (let s = noted_from lock i x notes o r in (s.0, inr s.1, s.2))
]

pub noted_to : (words : Words) (lock i x : ℕ) (notes : List Glance) → ((o : Glance) → Has o (with_noted lock i x notes) → IsUnmoved words o)
    → (n : Glance) → Has n notes → IsUnmoved words n
noted_to words lock i x [] all n h = absurd h
noted_to words lock i x (m ∷ notes) all n h = elim h [
  | inl e ↦ subst (λ (z : Glance). IsUnmoved words z) (sym e) (here (eqb m.word lock) (all _ (inl refl)))
  | inr r ↦ noted_to words lock i x notes (λ o q. all o (inr q)) n r
]
  where
    here : (b : Bool) → IsUnmoved words (cond b (record m { words = (i, x) ∷ m.words }) m) → IsUnmoved words m
    here true u = u
    here false u = u

-- ---- a lock word found again
pub marked_from : (lock x : ℕ) (notes : List Glance) (o : Glance) → Has o (marked lock x notes) → (n : Glance) × Has n notes × ((o ≡ n) ⊎ (o ≡ record n { again = true }))
marked_from lock x [] o h = absurd h
marked_from lock x (n ∷ notes) o h = elim h [
  | inl e ↦ elim (cases_Bool (eqb n.word lock && eqb n.value x)) [
    | inl t ↦ (n, inl refl, inr (e ∙ ap (λ b. cond b (record n { again = true }) n) t))
    | inr f ↦ (n, inl refl, inl (e ∙ ap (λ b. cond b (record n { again = true }) n) f))
  ]
  | inr r ↦ (let s = marked_from lock x notes o r in (s.0, inr s.1, s.2))
]

-- a note is unmoved where it is so with the mark
marked_one : (words : Words) (lock : ℕ) (m : Glance) (b : Bool) → (eqb m.word lock && eqb m.value (words lock)) ≡ b
    → IsUnmoved words (cond b (record m { again = true }) m) → IsUnmoved words m
marked_one words lock m true e u = let p = and_parts (eqb m.word lock) (eqb m.value (words lock)) e in
    inr (ap words (eqb-true m.word lock p.0) ∙ sym (eqb-true m.value (words lock) p.1))
marked_one words lock m false e u = u

pub marked_to : (words : Words) (lock : ℕ) (notes : List Glance) → ((o : Glance) → Has o (marked lock (words lock) notes) → IsUnmoved words o)
    → (n : Glance) → Has n notes → IsUnmoved words n
marked_to words lock [] all n h = absurd h
marked_to words lock (m ∷ notes) all n h = elim h [
  | inl e ↦ subst (λ (z : Glance). IsUnmoved words z) (sym e) (marked_one words lock m (eqb m.word lock && eqb m.value (words lock)) refl (all _ (inl refl)))
  | inr r ↦ marked_to words lock notes (λ o q. all o (inr q)) n r
]

pub again_all : (words : Words) (notes : List Glance) → all_again notes ≡ true → (o : Glance) → Has o notes → IsUnmoved words o
again_all words [] t o h = absurd h
again_all words (m ∷ notes) t o h = let p = and_parts m.again (all_again notes) t in elim h [
  | inl e ↦ inl (ap (λ (z : Glance). z.again) e ∙ p.0)
  | inr r ↦ again_all words notes p.1 o r
]

-- ---- no mark
pub unmarked_from : (notes : List Glance) (o : Glance) → Has o (unmarked notes) → (n : Glance) × Has n notes × (o ≡ record n { again = false })
unmarked_from [] o h = absurd h
unmarked_from (n ∷ notes) o h = elim h [
  | inl e ↦ (n, inl refl, e)
  | inr r ↦ (let s = unmarked_from notes o r in (s.0, inr s.1, s.2))
]

pub unmarked_to : (words : Words) (notes : List Glance) → ((o : Glance) → Has o (unmarked notes) → IsUnmoved words o) → (n : Glance) → Has n notes → words n.word ≡ n.value
unmarked_to words [] all n h = absurd h
unmarked_to words (m ∷ notes) all n h = elim h [
  | inl e ↦ subst (λ (z : Glance). words z.word ≡ z.value) (sym e) (elim (all (record m { again = false }) (inl refl)) [ inl q ↦ absurd (cc) | inr q ↦ q ])
  | inr r ↦ unmarked_to words notes (λ o q. all o (inr q)) n r
]
