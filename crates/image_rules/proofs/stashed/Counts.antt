-- Notes and stash records by their numbers: one note slot more counts one note more at most, and what stands among notes
-- stands on one of their note slots.
use Rattle.std.proofs.Common.{◌≡◌, ◌≢◌, ℕ, zero, suc, ◌+◌, ◌<◌, ◌≤◌, refl, sym, ap, subst, ◌∙◌, arith, ⊎_elim, Bool, true, false, List, [], ◌∷◌, ◌++◌, length, length-append, add-one}
use Rattle.std.specs.Prelude.{◌==◌, ◌&&◌, filter, Option, None, Some, if◌then◌else◌}
use Rattle.std.specs.List.{flat_map}
use Rattle.std.proofs.lemmas.Bool.{cases_lt, cases_eq}
use Rattle.std.proofs.lemmas.Bool.Decides.{nat_tests}
use Rattle.std.proofs.lemmas.List.{append-nil}
use Rattle.std.proofs.lemmas.List.Concat.{flat_map-append}
use Rattle.std.proofs.lemmas.List.Elements.{filter-append}
use Rattle.hash_word.specs.Hash.{probing_of}
use Rattle.bucket_meta.specs.Bucket.{note_used, note_member, note_index, note_finger, overflow_count}
use Rattle.bucket_meta.specs.Notes.{OverflowNote, numbers_below, how_often}
use Rattle.image_layout.specs.Places.{Shape}
use Rattle.sound_image.specs.Segments.{ImageWords}
use Rattle.sound_image.specs.Records.{word_in, notes_in, notes_of, stashed_of, HasExactNotes}
use Rattle.image_rules.specs.declared.notes.OverflowNote.{OverflowNote as Sought}
use Rattle.image_rules.specs.Noted.{matches, how_many, piece_on, noted, AreNamed}

-- ONE PLACE MORE
pub count_more : (f : ℕ → List OverflowNote) (p : OverflowNote → Bool) (n : ℕ)
    → length (filter p (flat_map f (numbers_below (n + 1)))) ≡ length (filter p (flat_map f (numbers_below n))) + length (filter p (f n))
count_more f p n =
    ap (λ (m : ℕ). length (filter p (flat_map f (numbers_below m)))) (add-one n)
    ∙ ap (λ (xs : List OverflowNote). length (filter p xs))
    (flat_map-append f (numbers_below n) (n ∷ []) ∙ ap (λ (xs : List OverflowNote). flat_map f (numbers_below n) ++ xs) (append-nil (f n)))
    ∙ ap length (filter-append p (flat_map f (numbers_below n)) (f n)) ∙ length-append (filter p (flat_map f (numbers_below n))) (filter p (f n))

-- counted along
pub one_count_more : (f : ℕ → List OverflowNote) (p : OverflowNote → Bool) (n count one : ℕ)
    → count ≡ length (filter p (flat_map f (numbers_below n))) → one ≡ length (filter p (f n))
    → count + one ≡ length (filter p (flat_map f (numbers_below (n + 1))))
one_count_more f p n count one before here =
    ap (λ (m : ℕ). m + one) before ∙ ap (λ (m : ℕ). length (filter p (flat_map f (numbers_below n))) + m) here ∙ sym (count_more f p n)

pub one_few_more : (n count one : ℕ) → count ≤ n → one ≤ 1 → count + one ≤ n + 1
one_few_more n count one few most = omega arith

pub count_both : (p : OverflowNote → Bool) (xs ys : List OverflowNote) → length (filter p (xs ++ ys)) ≡ length (filter p xs) + length (filter p ys)
count_both p xs ys = ap length (filter-append p xs ys) ∙ length-append (filter p xs) (filter p ys)

-- a piece that is there only where two tests pass
nothing_there : (a b c d : ℕ) (xs : List OverflowNote) → ((a ≡ b) × (c ≡ d) → ⊥) → (if (a == b) && (c == d) then xs else []) ≡ []
nothing_there a b c d xs never = by_cases (λ e f. never (e, f))
  where
    by_cases : (a ≡ b → c ≡ d → ⊥) → (if (a == b) && (c == d) then xs else []) ≡ []
    by_cases never = grind (arith, nat_tests)

all_there : (a b c d : ℕ) (xs : List OverflowNote) → a ≡ b → c ≡ d → (if (a == b) && (c == d) then xs else []) ≡ xs
all_there a b c d xs e f = grind (arith, nat_tests)

pub counts_none : (p : OverflowNote → Bool) (a b c d : ℕ) (x : OverflowNote) → ((a ≡ b) × (c ≡ d) → ⊥) → length (filter p (if (a == b) && (c == d) then x ∷ [] else [])) ≡ 0
counts_none p a b c d x never = ap (λ (xs : List OverflowNote). length (filter p xs)) (nothing_there a b c d (x ∷ []) never)

pub counts_one : (p : OverflowNote → Bool) (a b c d : ℕ) (x : OverflowNote) → a ≡ b → c ≡ d → p x ≡ true → length (filter p (if (a == b) && (c == d) then x ∷ [] else [])) ≡ 1
counts_one p a b c d x e f is =
    ap (λ (xs : List OverflowNote). length (filter p xs)) (all_there a b c d (x ∷ []) e f) ∙ ap (λ (t : Bool). length (if t then x ∷ [] else [])) is

pub counts_other : (p : OverflowNote → Bool) (a b c d : ℕ) (x : OverflowNote) → a ≡ b → c ≡ d → p x ≡ false
    → length (filter p (if (a == b) && (c == d) then x ∷ [] else [])) ≡ 0
counts_other p a b c d x e f is =
    ap (λ (xs : List OverflowNote). length (filter p xs)) (all_there a b c d (x ∷ []) e f) ∙ ap (λ (t : Bool). length (if t then x ∷ [] else [])) is

-- WHERE NOTHING IS SOUGHT all are counted
pub all_counted : (notes : List OverflowNote) → how_many None notes ≡ length notes
all_counted [] = refl
all_counted (x ∷ notes) = ap suc (all_counted notes)

-- WHAT STANDS AMONG NOTES stands on one of their note slots
pub has_piece : (f : ℕ → List OverflowNote) (p : OverflowNote → Bool) (n : ℕ) → 0 < length (filter p (flat_map f (numbers_below n)))
    → (i : ℕ) × (i < n) × (0 < length (filter p (f i)))
has_piece f p zero some = absurd (omega (arith, some))
has_piece f p (suc n) some =
    let parts = count_more f p n in
    let more : 0 < length (filter p (flat_map f (numbers_below (n + 1)))) =
    subst (λ (m : ℕ). 0 < length (filter p (flat_map f (numbers_below m)))) (sym (add-one n)) some in
    ⊎_elim (λ (last : 0 < length (filter p (f n))). (n, omega arith, last))
    (λ (none : length (filter p (f n)) ≤ 0).
    let front = has_piece f p n (omega (arith, parts, more, none)) in
    (front.0, omega (arith, front.1), front.2))
    (cases_lt 0 (length (filter p (f n))))

abbrev same_note : OverflowNote → OverflowNote → Bool
same_note note other = (other.0 == note.0) && (other.1 == note.1)

piece_says : (a b c d : ℕ) (x note : OverflowNote) → 0 < length (filter (same_note note) (if (a == b) && (c == d) then x ∷ [] else []))
    → (a ≡ b) × (c ≡ d) × (x.0 ≡ note.0) × (x.1 ≡ note.1)
piece_says a b c d x note some =
    ⊎_elim
    (λ (e : a ≡ b).
    ⊎_elim
    (λ (f : c ≡ d).
    let only : 0 < length (filter (same_note note) (x ∷ [])) =
    subst (λ (xs : List OverflowNote). 0 < length (filter (same_note note) xs)) (all_there a b c d (x ∷ []) e f) some in
    ⊎_elim
    (λ (g : x.0 ≡ note.0).
    ⊎_elim (λ (h : x.1 ≡ note.1). (e, f, g, h)) (λ (other : x.1 ≢ note.1). absurd (no_match (λ _ h. other h) only)) (cases_eq x.1 note.1))
    (λ (other : x.0 ≢ note.0). absurd (no_match (λ g _. other g) only))
    (cases_eq x.0 note.0))
    (λ (other : c ≢ d). absurd (omega (arith, some, counts_none (same_note note) a b c d x (λ both. other both.1))))
    (cases_eq c d))
    (λ (other : a ≢ b). absurd (omega (arith, some, counts_none (same_note note) a b c d x (λ both. other both.0))))
    (cases_eq a b)
  where
    test_false : (m n k l : ℕ) → (m ≡ n → k ≡ l → ⊥) → ((m == n) && (k == l)) ≡ false
    test_false m n k l never = grind (arith, nat_tests)

    no_match : (x.0 ≡ note.0 → x.1 ≡ note.1 → ⊥) → 0 < length (filter (same_note note) (x ∷ [])) → ⊥
    no_match never only =
        let none : length (filter (same_note note) (x ∷ [])) ≡ 0 =
        ap (λ (t : Bool). length (if t then x ∷ [] else [])) (test_false x.0 note.0 x.1 note.1 never) in
        absurd (omega (arith, only, none))

module _ (shape : Shape) (word : ImageWords) (s b : ℕ) where
  -- a note among those of one side is at most as often in the stash, if each on its note slots is
  named_on : (c side : ℕ) → AreNamed shape word s b c side 4 → (note : OverflowNote)
      → 0 < how_often note (noted (word_in shape word s c 1) (word_in shape word s c 3) side 4)
      → how_often note (notes_of shape word s b) ≤ how_often note (stashed_of shape word s b)
  named_on c side named note some =
      let at = has_piece (λ i. piece_on (word_in shape word s c 1) (word_in shape word s c 3) side i) (same_note note) 4 some in
      let says = piece_says (note_used at.0 (word_in shape word s c 1)) 1 (note_member at.0 (word_in shape word s c 1)) side
      (note_finger at.0 (word_in shape word s c 1) (word_in shape word s c 3), note_index at.0 (word_in shape word s c 1)) note at.2 in
      let same : (note_finger at.0 (word_in shape word s c 1) (word_in shape word s c 3), note_index at.0 (word_in shape word s c 1)) ≡ note =
      λ j. (says.2 j, says.3 j) in
      subst (λ (n : OverflowNote). how_often n (notes_of shape word s b) ≤ how_often n (stashed_of shape word s b)) same
      (named at.0 at.1 (record { used = says.0; on_side = says.1 }))

  pub counts-exact : overflow_count (word_in shape word s b 1) + how_many None (notes_of shape word s b) ≡ how_many None (stashed_of shape word s b)
      → AreNamed shape word s b b 0 4 → AreNamed shape word s b (probing_of b) 1 4 → HasExactNotes shape word s b
  counts-exact count own beside =
      record {
        names_different = λ note.
            let parts = count_both (same_note note) (notes_in shape word s b 0) (notes_in shape word s (probing_of b) 1) in
            ⊎_elim (λ (here : 0 < how_often note (notes_in shape word s b 0)). named_on b 0 own note here)
            (λ (none : how_often note (notes_in shape word s b 0) ≤ 0).
            ⊎_elim (λ (there : 0 < how_often note (notes_in shape word s (probing_of b) 1)). named_on (probing_of b) 1 beside note there)
            (λ (neither : how_often note (notes_in shape word s (probing_of b) 1) ≤ 0). omega (arith, parts, none, neither))
            (cases_lt 0 (how_often note (notes_in shape word s (probing_of b) 1))))
            (cases_lt 0 (how_often note (notes_in shape word s b 0)));
        counts_others = omega (arith, count, all_counted (notes_of shape word s b), all_counted (stashed_of shape word s b));
      }

  pub exact-count : HasExactNotes shape word s b
      → overflow_count (word_in shape word s b 1) + how_many None (notes_of shape word s b) ≡ how_many None (stashed_of shape word s b)
  exact-count exact = omega (arith, exact.counts_others, all_counted (notes_of shape word s b), all_counted (stashed_of shape word s b))

  pub exact-named : HasExactNotes shape word s b → (c side : ℕ) → AreNamed shape word s b c side 4
  exact-named exact c side i below on = exact.names_different _

-- THE NOTE that is sought
pub sought_often : (sought : Sought) (f k : ℕ) → sought.finger ≡ f → sought.index ≡ k → (notes : List OverflowNote)
    → how_many (Some sought) notes ≡ how_often (f, k) notes
sought_often sought f k finger index notes =
    let same : (sought.finger, sought.index) ≡ (f, k) = λ j. (finger j, index j) in
    ap (λ (n : OverflowNote). how_often n notes) same

-- where no piece counts, none does in all
pub none_counted : (f : ℕ → List OverflowNote) (p : OverflowNote → Bool) (n : ℕ) → ((i : ℕ) → i < n → length (filter p (f i)) ≡ 0)
    → length (filter p (flat_map f (numbers_below n))) ≡ 0
none_counted f p n none =
    ⊎_elim (λ (some : 0 < length (filter p (flat_map f (numbers_below n)))).
    let piece = has_piece f p n some in
    absurd (omega (arith, piece.2, none piece.0 piece.1)))
    (λ (zero : length (filter p (flat_map f (numbers_below n))) ≤ 0). omega (arith, zero))
    (cases_lt 0 (length (filter p (flat_map f (numbers_below n)))))

-- what is counted on both sides is what is counted of all
pub both_sides : (shape : Shape) (word : ImageWords) (s b : ℕ) (sought : Option Sought) (beside : ℕ) → beside ≡ probing_of b
    → (w1 w3 u1 u3 : ℕ) → w1 ≡ word_in shape word s b 1 → w3 ≡ word_in shape word s b 3
    → u1 ≡ word_in shape word s beside 1 → u3 ≡ word_in shape word s beside 3
    → (own others : ℕ) → own ≡ how_many sought (noted w1 w3 0 4) → others ≡ how_many sought (noted u1 u3 1 4)
    → own + others ≡ how_many sought (notes_of shape word s b)
both_sides shape word s b sought beside next w1 w3 u1 u3 e1 e3 f1 f3 own others count more =
    let here : own ≡ how_many sought (notes_in shape word s b 0) =
    count ∙ ap (λ (w : ℕ). how_many sought (noted w w3 0 4)) e1 ∙ ap (λ (w : ℕ). how_many sought (noted (word_in shape word s b 1) w 0 4)) e3 in
    let there : others ≡ how_many sought (notes_in shape word s (probing_of b) 1) =
    more ∙ ap (λ (w : ℕ). how_many sought (noted w u3 1 4)) f1 ∙ ap (λ (w : ℕ). how_many sought (noted (word_in shape word s beside 1) w 1 4)) f3
    ∙ ap (λ (n : ℕ). how_many sought (notes_in shape word s n 1)) next in
    ap (λ (n : ℕ). n + others) here ∙ ap (λ (n : ℕ). how_many sought (notes_in shape word s b 0) + n) there
    ∙ sym (count_both (matches sought) (notes_in shape word s b 0) (notes_in shape word s (probing_of b) 1))
