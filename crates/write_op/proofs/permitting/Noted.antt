-- Where a note slot is freed, the notes of its side are without its note, and those of the other side stay.
use Rattle.std.proofs.Common.{◌≡◌, ◌≢◌, ℕ, zero, suc, ◌-◌, ◌%◌, ◌^◌, ◌<◌, Bool, true, false, Option, None, Some, List, [], ◌∷◌, inl, inr, refl, sym, ap, ◌∙◌, subst, arith}
use Rattle.std.specs.Prelude.{◌==◌, ◌||◌, if◌then◌else◌}
use Rattle.std.proofs.lemmas.Bool.{cases_eq, eqb-true, eq-eqb, ne_eqb, and_parts}
use Rattle.std.proofs.lemmas.Option.{none-some, same_Some}
use Rattle.bucket_meta.specs.Bucket.{note_used, note_member, note_index, note_finger, overflow_count}
use Rattle.bucket_meta.specs.Notes.{OverflowNote, note_piece, notes_by}
use Rattle.bucket_meta.specs.Visits.{is_note, is_named}
use Rattle.bucket_meta.specs.Search.{lowest_among}
use Rattle.bucket_meta.specs.NoteWords.{note_place, lowered_count, FreesPlace}
use Rattle.bucket_meta.proofs.Counts.{same_pieces, changed_piece}
use Rattle.bucket_meta.proofs.ExactNotes.{IsOneMore, one_more_by_sums}

-- ---- a note that is there
pub record IsThere (w1 w3 side finger index i : ℕ) : Type 0 where
  pub used : note_used i w1 ≡ 1
  pub member : note_member i w1 ≡ side
  pub is_index : note_index i w1 ≡ index
  pub is_finger : note_finger i w1 w3 ≡ finger
  pub low : i < 4

there : (w1 w3 side finger index i : ℕ) → i < 4 → is_note w1 w3 side finger index i ≡ true → IsThere w1 w3 side finger index i
there w1 w3 side finger index i low e =
    let a = and_parts (note_used i w1 == 1) _ e in
    let b = and_parts (note_member i w1 == side) _ a.1 in
    let c = and_parts (note_index i w1 == index) (note_finger i w1 w3 == finger) b.1 in
    record {
      used = eqb-true (note_used i w1) 1 a.0;
      member = eqb-true (note_member i w1) side b.0;
      is_index = eqb-true (note_index i w1) index c.0;
      is_finger = eqb-true (note_finger i w1 w3) finger c.1;
      low = low;
    }

-- the search for one finds it, or no place has it
pub record FindsNote (w1 w3 side finger index : ℕ) (found : Option ℕ) : Type 0 where
  pub some : (i : ℕ) → found ≡ Some i → IsThere w1 w3 side finger index i
  pub none : found ≡ None → is_named w1 w3 side finger index ≡ false

finds_by : (w1 w3 side finger index : ℕ) (a b c d : Bool)
    → is_note w1 w3 side finger index 0 ≡ a → is_note w1 w3 side finger index 1 ≡ b → is_note w1 w3 side finger index 2 ≡ c → is_note w1 w3 side finger index 3 ≡ d
    → FindsNote w1 w3 side finger index (if a then Some 0 else if b then Some 1 else if c then Some 2 else if d then Some 3 else None)
finds_by w1 w3 side finger index true b c d p q r s =
    record { some = λ i e. subst (IsThere w1 w3 side finger index) (same_Some 0 i e) (there w1 w3 side finger index 0 (omega arith) p); none = λ e. absurd (none-some 0 (sym e)) }
finds_by w1 w3 side finger index false true c d p q r s =
    record { some = λ i e. subst (IsThere w1 w3 side finger index) (same_Some 1 i e) (there w1 w3 side finger index 1 (omega arith) q); none = λ e. absurd (none-some 1 (sym e)) }
finds_by w1 w3 side finger index false false true d p q r s =
    record { some = λ i e. subst (IsThere w1 w3 side finger index) (same_Some 2 i e) (there w1 w3 side finger index 2 (omega arith) r); none = λ e. absurd (none-some 2 (sym e)) }
finds_by w1 w3 side finger index false false false true p q r s =
    record { some = λ i e. subst (IsThere w1 w3 side finger index) (same_Some 3 i e) (there w1 w3 side finger index 3 (omega arith) s); none = λ e. absurd (none-some 3 (sym e)) }
finds_by w1 w3 side finger index false false false false p q r s = record {
  some = λ i e. absurd (none-some i e);
  none = λ e. ap (λ z. z || (is_note w1 w3 side finger index 1 || (is_note w1 w3 side finger index 2 || is_note w1 w3 side finger index 3))) p
      ∙ ap (λ z. z || (is_note w1 w3 side finger index 2 || is_note w1 w3 side finger index 3)) q ∙ ap (λ z. z || is_note w1 w3 side finger index 3) r ∙ s;
}

pub finds_note : (w1 w3 side finger index : ℕ) → FindsNote w1 w3 side finger index (note_place w1 w3 side finger index)
unfolding lowest_among
finds_note w1 w3 side finger index = finds_by w1 w3 side finger index (is_note w1 w3 side finger index 0) (is_note w1 w3 side finger index 1) (is_note w1 w3 side finger index 2)
    (is_note w1 w3 side finger index 3) refl refl refl refl

-- ---- a place that is freed
module _ (w1 w3 x1 x3 i : ℕ) (f : FreesPlace w1 w3 x1 x3 i) (low : i < 4) where
  abbrev p : ℕ → ℕ → List OverflowNote
  p side j = note_piece side (note_used j w1) (note_member j w1) (note_finger j w1 w3) (note_index j w1)

  abbrev q : ℕ → ℕ → List OverflowNote
  q side j = note_piece side (note_used j x1) (note_member j x1) (note_finger j x1 x3) (note_index j x1)

  others : (side j : ℕ) → j < 4 → j ≢ i → q side j ≡ p side j
  others side j l n =
      ap (λ z. note_piece side z (note_member j x1) (note_finger j x1 x3) (note_index j x1)) (f.others.used j l n)
      ∙ ap (λ z. note_piece side (note_used j w1) z (note_finger j x1 x3) (note_index j x1)) (f.others.members j l n)
      ∙ ap (λ z. note_piece side (note_used j w1) (note_member j w1) z (note_index j x1)) (f.others.fingers j l n)
      ∙ ap (λ z. note_piece side (note_used j w1) (note_member j w1) (note_finger j w1 w3) z) (f.others.indexes j l n)

  none_there : (side : ℕ) → q side i ≡ []
  none_there side = ap (λ z. note_piece side z (note_member i x1) (note_finger i x1 x3) (note_index i x1)) f.free

  module _ (side finger index : ℕ) (t : IsThere w1 w3 side finger index i) where
    was_there : p side i ≡ (finger, index) ∷ []
    was_there =
        ap (λ z. note_piece side z (note_member i w1) (note_finger i w1 w3) (note_index i w1)) t.used
        ∙ ap (λ (b : Bool). if b then (note_finger i w1 w3, note_index i w1) ∷ [] else []) (eq-eqb (note_member i w1) side t.member)
        ∙ ap (λ z. (z, note_index i w1) ∷ []) t.is_finger ∙ ap (λ z. (finger, z) ∷ []) t.is_index

    -- the notes of its side are one less
    pub one_less : IsOneMore (notes_by w1 w3 side) (notes_by x1 x3 side) (finger, index)
    one_less = one_more_by_sums (notes_by w1 w3 side) (notes_by x1 x3 side) (finger, index) (λ g is.
        let e = changed_piece g is (p side) (q side) i 4 low (λ j l n. others side j l n) in
        let a : g (p side i) ≡ g ((finger, index) ∷ []) = ap g was_there in
        let b : g (q side i) ≡ 0 = ap g (none_there side) ∙ is.none in
        omega (arith, e, a, b))

    -- those of the other side stay
    pub other_side : (other : ℕ) → side ≢ other → notes_by x1 x3 other ≡ notes_by w1 w3 other
    other_side other apart = same_pieces (p other) (q other) 4 (λ j l. by j l)
      where
        was_none : p other i ≡ []
        was_none =
            ap (λ z. note_piece other z (note_member i w1) (note_finger i w1 w3) (note_index i w1)) t.used
            ∙ ap (λ (b : Bool). if b then (note_finger i w1 w3, note_index i w1) ∷ [] else []) (ne_eqb (note_member i w1) other (λ e. apart (sym t.member ∙ e)))

        by : (j : ℕ) → j < 4 → q other j ≡ p other j
        by j l = elim (cases_eq j i) [
          | inl e ↦ subst (λ z. q other z ≡ p other z) (sym e) (none_there other ∙ sym was_none)
          | inr n ↦ others other j l n
        ]

-- ---- the count is lowered
module _ (w : ℕ) (some : 0 < overflow_count w) where
  pub lowered_lists : (w3 side : ℕ) → notes_by (lowered_count w) w3 side ≡ notes_by w w3 side
  lowered_lists w3 side = same_pieces (λ j. note_piece side (note_used j w) (note_member j w) (note_finger j w w3) (note_index j w))
      (λ j. note_piece side (note_used j (lowered_count w)) (note_member j (lowered_count w)) (note_finger j (lowered_count w) w3) (note_index j (lowered_count w))) 4 (λ j l.
      ap (λ z. note_piece side z (note_member j (lowered_count w)) (note_finger j (lowered_count w) w3) (note_index j (lowered_count w))) (used j l)
      ∙ ap (λ z. note_piece side (note_used j w) z (note_finger j (lowered_count w) w3) (note_index j (lowered_count w))) (members j l)
      ∙ ap (λ z. note_piece side (note_used j w) (note_member j w) z (note_index j (lowered_count w))) (fingers j l)
      ∙ ap (λ z. note_piece side (note_used j w) (note_member j w) (note_finger j w w3) z) (indexes j l))
    where
      used : (j : ℕ) → j < 4 → note_used j (lowered_count w) ≡ note_used j w
      used zero l = omega (arith, some)
      used (suc zero) l = omega (arith, some)
      used (suc (suc zero)) l = omega (arith, some)
      used (suc (suc (suc zero))) l = omega (arith, some)
      used (suc (suc (suc (suc j)))) l = absurd (omega (arith, l))

      members : (j : ℕ) → j < 4 → note_member j (lowered_count w) ≡ note_member j w
      members zero l = omega (arith, some)
      members (suc zero) l = omega (arith, some)
      members (suc (suc zero)) l = omega (arith, some)
      members (suc (suc (suc zero))) l = omega (arith, some)
      members (suc (suc (suc (suc j)))) l = absurd (omega (arith, l))

      indexes : (j : ℕ) → j < 4 → note_index j (lowered_count w) ≡ note_index j w
      indexes zero l = omega (arith, some)
      indexes (suc zero) l = omega (arith, some)
      indexes (suc (suc zero)) l = omega (arith, some)
      indexes (suc (suc (suc zero))) l = omega (arith, some)
      indexes (suc (suc (suc (suc j)))) l = absurd (omega (arith, l))

      fingers : (j : ℕ) → j < 4 → note_finger j (lowered_count w) w3 ≡ note_finger j w w3
      fingers zero l = refl
      fingers (suc zero) l = refl
      fingers (suc (suc zero)) l = omega (arith, some)
      fingers (suc (suc (suc zero))) l = omega (arith, some)
      fingers (suc (suc (suc (suc j)))) l = absurd (omega (arith, l))

  pub lowered : overflow_count (lowered_count w) ≡ overflow_count w - 1
  lowered = omega (arith, some)

  pub lowered_slots : lowered_count w % 2 ^ 28 ≡ w % 2 ^ 28
  lowered_slots = omega (arith, some)
