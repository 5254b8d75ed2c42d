-- What each note is after a step, by the note that it was; and that whatever agrees with more notes agrees with fewer.
use Rattle.std.proofs.Common.{◌≡◌, ◌≢◌, ℕ, Bool, true, false, cond, ◌&&◌, eqb, List, [], ◌∷◌, inl, inr, refl, sym, ap, ◌∙◌}
use Rattle.std.proofs.lemmas.Bool.{cases_Bool, eqb-true, eq-eqb, ne_eqb, and_parts}
use Rattle.trace.specs.Events.{Words}
use Rattle.world.specs.Ground.{Ground}
use Rattle.world.specs.Views.{Glance, Has}
use Rattle.world.specs.Kinds.{with_noted, unmarked, marked, all_again}
use Rattle.world.specs.Conditions.{IsNow}

pub never : {A : Type 0} → false ≡ true → A
never e = absurd (cc)

-- ---- one word more
abbrev pub noted_one : ℕ → ℕ → ℕ → Glance → Glance
noted_one lock i x n = cond (eqb n.word lock) (record n { words = (i, x) ∷ n.words }) n

pub noted_to : (lock i x : ℕ) (notes : List Glance) (n : Glance) → Has n notes → Has (noted_one lock i x n) (with_noted lock i x notes)
noted_to lock i x [] n h = absurd h
noted_to lock i x (m ∷ notes) n h = elim h [ inl e ↦ inl (ap (noted_one lock i x) e) | inr r ↦ inr (noted_to lock i x notes n r) ]

pub noted_from : (lock i x : ℕ) (notes : List Glance) (o : Glance) → Has o (with_noted lock i x notes) → (n : Glance) × Has n notes × (o ≡ noted_one lock i x n)
noted_from lock i x [] o h = absurd h
noted_from lock i x (m ∷ notes) o h = elim h [ inl e ↦ (m, inl refl, e) | inr r ↦ (let s = noted_from lock i x notes o r in (s.0, inr s.1, s.2)) ]

module _ (lock i x : ℕ) (n : Glance) where
  same_word_by : (b : Bool) → (cond b (record n { words = (i, x) ∷ n.words }) n).word ≡ n.word
  same_word_by true = refl
  same_word_by false = refl

  pub one_word : (noted_one lock i x n).word ≡ n.word
  one_word = same_word_by (eqb n.word lock)

  same_value_by : (b : Bool) → (cond b (record n { words = (i, x) ∷ n.words }) n).value ≡ n.value
  same_value_by true = refl
  same_value_by false = refl

  pub one_value : (noted_one lock i x n).value ≡ n.value
  one_value = same_value_by (eqb n.word lock)

  words_by : (b : Bool) (p : ℕ × ℕ) → Has p n.words → Has p (cond b (record n { words = (i, x) ∷ n.words }) n).words
  words_by true p h = inr h
  words_by false p h = h

  pub one_words : (p : ℕ × ℕ) → Has p n.words → Has p (noted_one lock i x n).words
  one_words p h = words_by (eqb n.word lock) p h

  pub one_here : n.word ≡ lock → noted_one lock i x n ≡ record n { words = (i, x) ∷ n.words }
  one_here e = ap (λ b. cond b (record n { words = (i, x) ∷ n.words }) n) (eq-eqb n.word lock e)

-- ---- words that may be the newest with the notes afterwards may be it with those before
module _ (site : Ground) (m : Words) where
  pub now_noted : (lock i x : ℕ) (notes : List Glance) → IsNow site (with_noted lock i x notes) m → IsNow site notes m
  now_noted lock i x notes a = record {
    structure = a.structure;
    table = a.table;
    agrees = λ n j y h w. a.agrees (noted_one lock i x n) j y (noted_to lock i x notes n h) (one_words lock i x n (j, y) w);
    heads = λ s n segment h e. a.heads s (noted_one lock i x n) segment (noted_to lock i x notes n h) (one_word lock i x n ∙ e) ∙ one_value lock i x n;
    exact = λ s b n segment home h e. a.exact s b (noted_one lock i x n) segment home (noted_to lock i x notes n h) (one_word lock i x n ∙ e);
  }

  pub now_more : (new : Glance) (notes : List Glance) → IsNow site (new ∷ notes) m → IsNow site notes m
  now_more new notes a = record {
    structure = a.structure;
    table = a.table;
    agrees = λ n j y h w. a.agrees n j y (inr h) w;
    heads = λ s n segment h e. a.heads s n segment (inr h) e;
    exact = λ s b n segment home h e. a.exact s b n segment home (inr h) e;
  }

-- ---- no mark
pub unmarked_to : (notes : List Glance) (n : Glance) → Has n notes → Has (record n { again = false }) (unmarked notes)
unmarked_to [] n h = absurd h
unmarked_to (m ∷ notes) n h = elim h [ inl e ↦ inl (ap (λ (z : Glance). record z { again = false }) e) | inr r ↦ inr (unmarked_to notes n r) ]

-- ---- a lock word found again
abbrev pub marked_one : ℕ → ℕ → Glance → Glance
marked_one lock x n = cond (eqb n.word lock && eqb n.value x) (record n { again = true }) n

pub marked_to : (lock x : ℕ) (notes : List Glance) (n : Glance) → Has n notes → Has (marked_one lock x n) (marked lock x notes)
marked_to lock x [] n h = absurd h
marked_to lock x (m ∷ notes) n h = elim h [ inl e ↦ inl (ap (marked_one lock x) e) | inr r ↦ inr (marked_to lock x notes n r) ]

pub marked_from : (lock x : ℕ) (notes : List Glance) (o : Glance) → Has o (marked lock x notes) → (n : Glance) × Has n notes × (o ≡ marked_one lock x n)
marked_from lock x [] o h = absurd h
marked_from lock x (m ∷ notes) o h = elim h [ inl e ↦ (m, inl refl, e) | inr r ↦ (let s = marked_from lock x notes o r in (s.0, inr s.1, s.2)) ]

module _ (lock x : ℕ) (n : Glance) where
  mark_word_by : (b : Bool) → (cond b (record n { again = true }) n).word ≡ n.word
  mark_word_by true = refl
  mark_word_by false = refl

  pub mark_word : (marked_one lock x n).word ≡ n.word
  mark_word = mark_word_by (eqb n.word lock && eqb n.value x)

  mark_value_by : (b : Bool) → (cond b (record n { again = true }) n).value ≡ n.value
  mark_value_by true = refl
  mark_value_by false = refl

  pub mark_value : (marked_one lock x n).value ≡ n.value
  mark_value = mark_value_by (eqb n.word lock && eqb n.value x)

  pub mark_here : n.word ≡ lock → n.value ≡ x → (marked_one lock x n).again ≡ true
  mark_here e f = ap (λ b. (cond (b && eqb n.value x) (record n { again = true }) n).again) (eq-eqb n.word lock e)
      ∙ ap (λ b. (cond b (record n { again = true }) n).again) (eq-eqb n.value x f)

  apart_by : (b : Bool) → (b ≡ true → n.word ≡ lock) → (n.word ≡ lock → ⊥) → (cond (b && eqb n.value x) (record n { again = true }) n).again ≡ n.again
  apart_by true is other = absurd (other (is refl))
  apart_by false is other = refl

  pub mark_there : (n.word ≡ lock → ⊥) → (marked_one lock x n).again ≡ n.again
  mark_there other = apart_by (eqb n.word lock) (λ t. eqb-true n.word lock t) other

-- ---- whether all are marked
pub all_marked : (notes : List Glance) → ((n : Glance) → Has n notes → n.again ≡ true) → all_again notes ≡ true
all_marked [] all = refl
all_marked (m ∷ notes) all = ap (λ b. b && all_again notes) (all m (inl refl)) ∙ all_marked notes (λ n h. all n (inr h))

pub one_unmarked : (notes : List Glance) (n : Glance) → Has n notes → n.again ≡ false → all_again notes ≡ false
one_unmarked notes n h f = elim (cases_Bool (all_again notes)) [
  | inr unlike ↦ unlike
  | inl t ↦ never (sym f ∙ marked_in notes t n h)
]
  where
    marked_in : (notes : List Glance) → all_again notes ≡ true → (n : Glance) → Has n notes → n.again ≡ true
    marked_in [] t n h = absurd h
    marked_in (m ∷ notes) t n h = let p = and_parts m.again (all_again notes) t in elim h [
      | inl e ↦ ap (λ (z : Glance). z.again) e ∙ p.0
      | inr r ↦ marked_in notes p.1 n r
    ]

pub mark_unlike : (lock x : ℕ) (n : Glance) → n.value ≢ x → (marked_one lock x n).again ≡ n.again
mark_unlike lock x n other = ap (λ b. (cond (eqb n.word lock && b) (record n { again = true }) n).again) (ne_eqb n.value x other) ∙ by (eqb n.word lock)
  where
    by : (b : Bool) → (cond (b && false) (record n { again = true }) n).again ≡ n.again
    by true = refl
    by false = refl
