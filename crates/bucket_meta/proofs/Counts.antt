-- How often a note is in a list, and how long the list is, are the sums of what its pieces give.
use Rattle.std.proofs.Common.{◌≡◌, ◌≢◌, ℕ, zero, suc, ◌+◌, ◌≤◌, ◌<◌, ◌==◌, ◌&&◌, List, [], ◌∷◌, ◌++◌, length, ap, sym, ◌∙◌, refl, inl, inr, arith, length-append, append-nil}
use Rattle.std.specs.List.{flat_map}
use Rattle.std.proofs.lemmas.Bool.{cases_lt}
use Rattle.std.proofs.lemmas.Grind.{flat_map-append}
use Rattle.std.proofs.lemmas.List.Elements.{filter-append}
use Rattle.bucket_meta.specs.Notes.{OverflowNote, how_often, numbers_below, note_piece}

-- a number of a list that is the sum of those of its two parts
pub record IsSum (f : List OverflowNote → ℕ) : Type 0 where
  pub none : f [] ≡ 0
  pub both : (a b : List OverflowNote) → f (a ++ b) ≡ f a + f b

pub how_often-append : (note : OverflowNote) (a b : List OverflowNote) → how_often note (a ++ b) ≡ how_often note a + how_often note b
how_often-append note a b =
    ap length (filter-append (λ other. (other.0 == note.0) && (other.1 == note.1)) a b) ∙ length-append _ _

pub how_often-is_sum : (note : OverflowNote) → IsSum (how_often note)
how_often-is_sum note = record { none = refl; both = how_often-append note }

pub length-is_sum : IsSum length
length-is_sum = record { none = refl; both = λ a b. length-append a b }

-- note slots with the same fields give the same
pub same_note_piece : (side u m f i v n g j : ℕ) → u ≡ v → m ≡ n → f ≡ g → i ≡ j → note_piece side u m f i ≡ note_piece side v n g j
same_note_piece side u m f i v n g j p q r s = cc

-- the pieces below n + 1 are those below n, and then piece n
pub pieces_more : (p : ℕ → List OverflowNote) (n : ℕ) → flat_map p (numbers_below (suc n)) ≡ flat_map p (numbers_below n) ++ p n
pieces_more p n = flat_map-append p (numbers_below n) (n ∷ []) ∙ ap (λ last. flat_map p (numbers_below n) ++ last) (append-nil (p n))

pub same_pieces : (p q : ℕ → List OverflowNote) (n : ℕ) → ((i : ℕ) → i < n → q i ≡ p i) → flat_map q (numbers_below n) ≡ flat_map p (numbers_below n)
same_pieces p q zero same = refl
same_pieces p q (suc n) same =
    let before : flat_map q (numbers_below n) ≡ flat_map p (numbers_below n) = same_pieces p q n (λ i within. same i (omega arith)) in
    let last : q n ≡ p n = same n (omega arith) in
    pieces_more q n ∙ ap (λ front. front ++ q n) before ∙ ap (λ piece. flat_map p (numbers_below n) ++ piece) last ∙ sym (pieces_more p n)

-- where one piece of those below n is changed, the number changes by what that piece gives
pub changed_piece : (f : List OverflowNote → ℕ) → IsSum f → (p q : ℕ → List OverflowNote) (k n : ℕ) → k < n → ((i : ℕ) → i < n → i ≢ k → q i ≡ p i)
    → f (flat_map q (numbers_below n)) + f (p k) ≡ f (flat_map p (numbers_below n)) + f (q k)
changed_piece f is p q k zero within same = absurd (omega arith)
changed_piece f is p q k (suc n) within same =
    let of_q : f (flat_map q (numbers_below (suc n))) ≡ f (flat_map q (numbers_below n)) + f (q n) = ap f (pieces_more q n) ∙ is.both _ _ in
    let of_p : f (flat_map p (numbers_below (suc n))) ≡ f (flat_map p (numbers_below n)) + f (p n) = ap f (pieces_more p n) ∙ is.both _ _ in
    elim (cases_lt k n) [
      | inl low ↦
          let before : f (flat_map q (numbers_below n)) + f (p k) ≡ f (flat_map p (numbers_below n)) + f (q k) = changed_piece f is p q k n low (λ i below. same i (omega (arith, below))) in
          let last : f (q n) ≡ f (p n) = ap f (same n (omega arith) (omega (arith, low))) in
          omega (arith, of_q, of_p, before, last)
      | inr high ↦
          let is_last : k ≡ n = omega (arith, within, high) in
          let before : f (flat_map q (numbers_below n)) ≡ f (flat_map p (numbers_below n)) =
          ap f (same_pieces p q n (λ i below. same i (omega (arith, below)) (omega (arith, below, is_last)))) in
          let here_p : f (p k) ≡ f (p n) = ap (λ i. f (p i)) is_last in
          let here_q : f (q k) ≡ f (q n) = ap (λ i. f (q i)) is_last in
          omega (arith, of_q, of_p, before, here_p, here_q)
    ]

-- what no piece gives, the list does not
pub no_piece : (f : List OverflowNote → ℕ) → IsSum f → (p : ℕ → List OverflowNote) (n : ℕ) → ((i : ℕ) → i < n → f (p i) ≡ 0) → f (flat_map p (numbers_below n)) ≡ 0
no_piece f is p zero nothing = is.none
no_piece f is p (suc n) nothing =
    let all : f (flat_map p (numbers_below (suc n))) ≡ f (flat_map p (numbers_below n)) + f (p n) = ap f (pieces_more p n) ∙ is.both _ _ in
    omega (arith, all, no_piece f is p n (λ i within. nothing i (omega arith)), nothing n (omega arith))

-- a piece gives no more than the list
pub piece_at_most : (f : List OverflowNote → ℕ) → IsSum f → (p : ℕ → List OverflowNote) (k n : ℕ) → k < n → f (p k) ≤ f (flat_map p (numbers_below n))
piece_at_most f is p k zero within = absurd (omega arith)
piece_at_most f is p k (suc n) within =
    let all : f (flat_map p (numbers_below (suc n))) ≡ f (flat_map p (numbers_below n)) + f (p n) = ap f (pieces_more p n) ∙ is.both _ _ in
    elim (cases_lt k n) [
      | inl low ↦ omega (arith, all, piece_at_most f is p k n low)
      | inr high ↦
          let is_last : k ≡ n = omega arith in
          let here : f (p k) ≡ f (p n) = ap (λ i. f (p i)) is_last in
          omega (arith, all, here)
    ]
