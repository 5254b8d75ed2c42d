-- Where a note is put on an unused note slot, the notes of its side have it once more, and those of the other side stay; and where the
-- count is raised, all of them stay.
use Rattle.std.proofs.Common.{◌≡◌, ◌≢◌, ℕ, zero, suc, ◌+◌, ◌/◌, ◌%◌, ◌^◌, ◌<◌, Bool, true, false, None, Some, List, [], ◌∷◌, inl, inr, refl, sym, ap, ◌∙◌, subst, arith}
use Rattle.std.specs.Prelude.{◌==◌, if◌then◌else◌}
use Rattle.std.proofs.lemmas.Bool.{cases_eq, eqb-false, eq-eqb, ne_eqb, not-true}
use Rattle.std.proofs.lemmas.Option.{none-some, same_Some}
use Rattle.bucket_meta.specs.Bucket.{note_used, note_member, note_index, note_finger, overflow_count}
use Rattle.bucket_meta.specs.Notes.{OverflowNote, AreExact, note_piece, notes_by}
use Rattle.bucket_meta.specs.Search.{lowest_among}
use Rattle.bucket_meta.specs.NoteWords.{is_unused, unused_place, raised_count, FillsPlace}
use Rattle.bucket_meta.proofs.Counts.{same_pieces, changed_piece}
use Rattle.bucket_meta.proofs.ExactNotes.{IsOneMore, one_more_by_sums, often_head}

-- ---- an unused place
bit_zero : (x : ℕ) → (x % 2 ^ 1 ≡ 1 → ⊥) → x % 2 ^ 1 ≡ 0
bit_zero x n = omega (arith, n)

unused : (w1 i : ℕ) → is_unused w1 i ≡ true → note_used i w1 ≡ 0
unused w1 i e = bit_zero (w1 / 2 ^ (28 + i)) (eqb-false (note_used i w1) 1 (not-true (note_used i w1 == 1) e))

abbrev IsUnusedPlace : ℕ → ℕ → Type 0
IsUnusedPlace w1 i = (note_used i w1 ≡ 0) × (i < 4)

unused_by : (w1 : ℕ) (a b c d : Bool) → is_unused w1 0 ≡ a → is_unused w1 1 ≡ b → is_unused w1 2 ≡ c → is_unused w1 3 ≡ d → (i : ℕ)
    → (if a then Some 0 else if b then Some 1 else if c then Some 2 else if d then Some 3 else None) ≡ Some i → IsUnusedPlace w1 i
unused_by w1 true b c d p q r s i e = subst (IsUnusedPlace w1) (same_Some 0 i e) (unused w1 0 p, omega arith)
unused_by w1 false true c d p q r s i e = subst (IsUnusedPlace w1) (same_Some 1 i e) (unused w1 1 q, omega arith)
unused_by w1 false false true d p q r s i e = subst (IsUnusedPlace w1) (same_Some 2 i e) (unused w1 2 r, omega arith)
unused_by w1 false false false true p q r s i e = subst (IsUnusedPlace w1) (same_Some 3 i e) (unused w1 3 s, omega arith)
unused_by w1 false false false false p q r s i e = absurd (none-some i e)

pub unused_is : (w1 i : ℕ) → unused_place w1 ≡ Some i → (note_used i w1 ≡ 0) × (i < 4)
unfolding lowest_among
unused_is w1 i e = unused_by w1 (is_unused w1 0) (is_unused w1 1) (is_unused w1 2) (is_unused w1 3) refl refl refl refl i e

-- ---- a place that is filled
module _ (w1 w3 x1 x3 i side index : ℕ) (f : FillsPlace w1 w3 x1 x3 i side index) (was : note_used i w1 ≡ 0) (low : i < 4) where
  abbrev p : ℕ → ℕ → List OverflowNote
  p s j = note_piece s (note_used j w1) (note_member j w1) (note_finger j w1 w3) (note_index j w1)

  abbrev q : ℕ → ℕ → List OverflowNote
  q s j = note_piece s (note_used j x1) (note_member j x1) (note_finger j x1 x3) (note_index j x1)

  others : (s j : ℕ) → j < 4 → j ≢ i → q s j ≡ p s j
  others s j l n =
      ap (λ z. note_piece s z (note_member j x1) (note_finger j x1 x3) (note_index j x1)) (f.others.used j l n)
      ∙ ap (λ z. note_piece s (note_used j w1) z (note_finger j x1 x3) (note_index j x1)) (f.others.members j l n)
      ∙ ap (λ z. note_piece s (note_used j w1) (note_member j w1) z (note_index j x1)) (f.others.fingers j l n)
      ∙ ap (λ z. note_piece s (note_used j w1) (note_member j w1) (note_finger j w1 w3) z) (f.others.indexes j l n)

  none_before : (s : ℕ) → p s i ≡ []
  none_before s = ap (λ z. note_piece s z (note_member i w1) (note_finger i w1 w3) (note_index i w1)) was

  there_now : (finger : ℕ) → note_finger i x1 x3 ≡ finger → q side i ≡ (finger, index) ∷ []
  there_now finger is =
      ap (λ z. note_piece side z (note_member i x1) (note_finger i x1 x3) (note_index i x1)) f.is_used
      ∙ ap (λ (b : Bool). if b then (note_finger i x1 x3, note_index i x1) ∷ [] else []) (eq-eqb (note_member i x1) side f.on_side)
      ∙ ap (λ z. (z, note_index i x1) ∷ []) is ∙ ap (λ z. (finger, z) ∷ []) f.of_index

  -- the notes of its side are one more
  pub one_more : (finger : ℕ) → note_finger i x1 x3 ≡ finger → IsOneMore (notes_by x1 x3 side) (notes_by w1 w3 side) (finger, index)
  one_more finger is = one_more_by_sums (notes_by x1 x3 side) (notes_by w1 w3 side) (finger, index) (λ g sum.
      let e = changed_piece g sum (p side) (q side) i 4 low (λ j l n. others side j l n) in
      let a : g (q side i) ≡ g ((finger, index) ∷ []) = ap g (there_now finger is) in
      let b : g (p side i) ≡ 0 = ap g (none_before side) ∙ sum.none in
      omega (arith, e, a, b))

  -- those of the other side stay
  pub other_side : (other : ℕ) → side ≢ other → notes_by x1 x3 other ≡ notes_by w1 w3 other
  other_side other apart = same_pieces (p other) (q other) 4 (λ j l. by j l)
    where
      none_now : q other i ≡ []
      none_now =
          ap (λ z. note_piece other z (note_member i x1) (note_finger i x1 x3) (note_index i x1)) f.is_used
          ∙ ap (λ (b : Bool). if b then (note_finger i x1 x3, note_index i x1) ∷ [] else []) (ne_eqb (note_member i x1) other (λ e. apart (sym f.on_side ∙ e)))

      by : (j : ℕ) → j < 4 → q other j ≡ p other j
      by j l = elim (cases_eq j i) [
        | inl e ↦ subst (λ z. q other z ≡ p other z) (sym e) (none_now ∙ sym (none_before other))
        | inr n ↦ others other j l n
      ]

-- ---- the count is raised
module _ (w : ℕ) (fits : w < 2 ^ 64) (few : overflow_count w < 31) where
  pub raised_lists : (w3 side : ℕ) → notes_by (raised_count w) w3 side ≡ notes_by w w3 side
  raised_lists w3 side = same_pieces (λ j. note_piece side (note_used j w) (note_member j w) (note_finger j w w3) (note_index j w))
      (λ j. note_piece side (note_used j (raised_count w)) (note_member j (raised_count w)) (note_finger j (raised_count w) w3) (note_index j (raised_count w))) 4 (λ j l.
      ap (λ z. note_piece side z (note_member j (raised_count w)) (note_finger j (raised_count w) w3) (note_index j (raised_count w))) (used j l)
      ∙ ap (λ z. note_piece side (note_used j w) z (note_finger j (raised_count w) w3) (note_index j (raised_count w))) (members j l)
      ∙ ap (λ z. note_piece side (note_used j w) (note_member j w) z (note_index j (raised_count w))) (fingers j l)
      ∙ ap (λ z. note_piece side (note_used j w) (note_member j w) (note_finger j w w3) z) (indexes j l))
    where
      used : (j : ℕ) → j < 4 → note_used j (raised_count w) ≡ note_used j w
      used zero l = omega (arith, fits)
      used (suc zero) l = omega (arith, fits)
      used (suc (suc zero)) l = omega (arith, fits)
      used (suc (suc (suc zero))) l = omega (arith, fits)
      used (suc (suc (suc (suc j)))) l = absurd (omega (arith, l))

      members : (j : ℕ) → j < 4 → note_member j (raised_count w) ≡ note_member j w
      members zero l = omega (arith, fits)
      members (suc zero) l = omega (arith, fits)
      members (suc (suc zero)) l = omega (arith, fits)
      members (suc (suc (suc zero))) l = omega (arith, fits)
      members (suc (suc (suc (suc j)))) l = absurd (omega (arith, l))

      indexes : (j : ℕ) → j < 4 → note_index j (raised_count w) ≡ note_index j w
      indexes zero l = omega (arith, fits)
      indexes (suc zero) l = omega (arith, fits)
      indexes (suc (suc zero)) l = omega (arith, fits)
      indexes (suc (suc (suc zero))) l = omega (arith, fits)
      indexes (suc (suc (suc (suc j)))) l = absurd (omega (arith, l))

      fingers : (j : ℕ) → j < 4 → note_finger j (raised_count w) w3 ≡ note_finger j w w3
      fingers zero l = refl
      fingers (suc zero) l = refl
      fingers (suc (suc zero)) l = omega (arith, fits, few)
      fingers (suc (suc (suc zero))) l = omega (arith, fits, few)
      fingers (suc (suc (suc (suc j)))) l = absurd (omega (arith, l))

  pub raised : overflow_count (raised_count w) ≡ overflow_count w + 1
  raised = omega (arith, fits, few)

  pub raised_slots : raised_count w % 2 ^ 28 ≡ w % 2 ^ 28
  raised_slots = omega (arith, fits)

-- ---- notes that are exact with one that is owed
pub exact_put : (more notes : List OverflowNote) (count : ℕ) (note : OverflowNote) (stashed : List OverflowNote) → IsOneMore more notes note → AreExact (note ∷ notes) count stashed → AreExact more count stashed
exact_put more notes count note stashed one exact = record {
  names_different = λ other. (let a = one.often other in let b = often_head other note notes in let c = exact.names_different other in omega (arith, a, b, c));
  counts_others = (let a = one.longer in let b = exact.counts_others in omega (arith, a, b));
}

pub exact_counted : (notes : List OverflowNote) (count : ℕ) (note : OverflowNote) (stashed : List OverflowNote) → AreExact (note ∷ notes) count stashed → AreExact notes (count + 1) stashed
exact_counted notes count note stashed exact = record {
  names_different = λ other. (let b = often_head other note notes in let c = exact.names_different other in omega (arith, b, c));
  counts_others = (let b = exact.counts_others in omega (arith, b));
}
