-- What is stored of a note: in lists, the notes of the home are with it then, and those of its neighbours stay.
use Rattle.std.proofs.Common.{◌≡◌, ℕ, ◌%◌, ◌^◌, ◌<◌, Option, None, Some, List, ◌∷◌, ◌++◌, refl, sym, ap, ◌∙◌, subst, arith, slice_index}
use Rattle.bucket_meta.specs.Bucket.{note_used, note_finger, overflow_count}
use Rattle.bucket_meta.specs.Notes.{OverflowNote, AreExact, notes_by}
use Rattle.bucket_meta.specs.NoteWords.{unused_place, noted_mark, noted_fingers, raised_count, FillsPlace}
use Rattle.bucket_meta.proofs.notes.Noted.{fills_mark, fills_place, finger_there}
use Rattle.bucket_meta.proofs.ExactNotes.{more_left, more_right}
use Rattle.stash_op.specs.declared.step.NoteBucket.{NoteBucket}
use Rattle.stash_op.specs.declared.step.NoteBucket.TheVariants.{Home, Probing}
use Rattle.stash_op.specs.declared.step.NoteWords.{NoteWords}
use Rattle.stash_op.specs.Search.{noted_or, noted_by}
use Rattle.stash_op.proofs.permitting.Filled.{unused_is, one_more, other_side, raised_lists, raised, raised_slots, exact_put, exact_counted}
use Rattle.phase.proofs.Noting.{Four, notes_four, KeepsBeside, apart, apart_back}

abbrev pub one_of : NoteBucket → Four → ℕ
one_of Home f = f.h1
one_of Probing f = f.p1

abbrev pub three_of : NoteBucket → Four → ℕ
three_of Home f = f.h3
three_of Probing f = f.p3

abbrev pub with_one : NoteBucket → ℕ → Four → Four
with_one Home x f = record f { h1 = x }
with_one Probing x f = record f { p1 = x }

abbrev pub with_three : NoteBucket → ℕ → Four → Four
with_three Home x f = record f { h3 = x }
with_three Probing x f = record f { p3 = x }

-- notes that were exact with one that was owed are so now
abbrev pub IsWith : Four → OverflowNote → Four → Type 0
IsWith f note g = (stashed : List OverflowNote) → AreExact (note ∷ notes_four f) (overflow_count f.h1) stashed → AreExact (notes_four g) (overflow_count g.h1) stashed

-- what the two stores do
pub record Notes (f : Four) (note : OverflowNote) (n : NoteWords) : Type 0 where
  pub slots : n.mark % 2 ^ 28 ≡ one_of n.bucket f % 2 ^ 28
  pub records : n.fingers % 2 ^ 48 ≡ three_of n.bucket f % 2 ^ 48
  pub first : KeepsBeside f (with_one n.bucket n.mark f)
  pub second : KeepsBeside (with_one n.bucket n.mark f) (with_three n.bucket n.fingers (with_one n.bucket n.mark f))
  pub alone : three_of n.bucket f ≡ n.fingers → IsWith f note (with_one n.bucket n.mark f)
  pub both : IsWith f note (with_three n.bucket n.fingers (with_one n.bucket n.mark f))

module _ (f : Four) (finger index : ℕ) (small : finger < 2 ^ 8) (index_bit : index < 2) where
  abbrev note : OverflowNote
  note = (finger, index)

  -- in the home bucket
  module _ (fits : f.h1 < 2 ^ 64) (i : ℕ) (is : (note_used i f.h1 ≡ 0) × (i < 4)) where
    abbrev x1 : ℕ
    x1 = noted_mark f.h1 i 0 finger index

    abbrev x3 : ℕ
    x3 = noted_fingers f.h3 i finger

    home_with : (y3 : ℕ) → FillsPlace f.h1 f.h3 x1 y3 i 0 index → note_finger i x1 y3 ≡ finger → IsWith f note (record f { h1 = x1; h3 = y3 })
    home_with y3 fills there stashed exact = subst (λ c. AreExact (notes_by x1 y3 0 ++ notes_by f.p1 f.p3 1) c stashed) (sym fills.others.count)
        (exact_put (notes_by x1 y3 0 ++ notes_by f.p1 f.p3 1) (notes_four f) (overflow_count f.h1) note stashed
        (more_left (notes_by x1 y3 0) (notes_by f.h1 f.h3 0) (notes_by f.p1 f.p3 1) note (one_more f.h1 f.h3 x1 y3 i 0 index fills is.0 is.1 finger there)) exact)

    home_notes : Notes f note (record { bucket = Home; mark = x1; fingers = x3 })
    home_notes =
        let m = fills_mark f.h1 i 0 finger index fits is.1 (omega arith) index_bit small f.h3 in
        let b = fills_place f.h1 i 0 finger index fits is.1 (omega arith) index_bit small f.h3 in
        let there = finger_there f.h1 i 0 finger index f.h3 fits is.1 small in
        let one = other_side f.h1 f.h3 x1 f.h3 i 0 index m is.0 is.1 1 apart in
        let two = other_side f.h1 f.h3 x1 x3 i 0 index b is.0 is.1 1 apart in
        record {
          slots = m.others.slots;
          records = b.others.records;
          first = record { before = one; after = refl; count = refl };
          second = record { before = two ∙ sym one; after = refl; count = refl };
          alone = λ same. home_with f.h3 m (ap (note_finger i x1) same ∙ there);
          both = home_with x3 b there;
        }

  -- in the probing bucket
  module _ (fits : f.p1 < 2 ^ 64) (i : ℕ) (is : (note_used i f.p1 ≡ 0) × (i < 4)) where
    abbrev u1 : ℕ
    u1 = noted_mark f.p1 i 1 finger index

    abbrev u3 : ℕ
    u3 = noted_fingers f.p3 i finger

    probing_with : (y3 : ℕ) → FillsPlace f.p1 f.p3 u1 y3 i 1 index → note_finger i u1 y3 ≡ finger → IsWith f note (record f { p1 = u1; p3 = y3 })
    probing_with y3 fills there stashed exact =
        exact_put (notes_by f.h1 f.h3 0 ++ notes_by u1 y3 1) (notes_four f) (overflow_count f.h1) note stashed
        (more_right (notes_by u1 y3 1) (notes_by f.p1 f.p3 1) (notes_by f.h1 f.h3 0) note (one_more f.p1 f.p3 u1 y3 i 1 index fills is.0 is.1 finger there)) exact

    probing_notes : Notes f note (record { bucket = Probing; mark = u1; fingers = u3 })
    probing_notes =
        let m = fills_mark f.p1 i 1 finger index fits is.1 (omega arith) index_bit small f.p3 in
        let b = fills_place f.p1 i 1 finger index fits is.1 (omega arith) index_bit small f.p3 in
        let there = finger_there f.p1 i 1 finger index f.p3 fits is.1 small in
        let one = other_side f.p1 f.p3 u1 f.p3 i 1 index m is.0 is.1 0 apart_back in
        let two = other_side f.p1 f.p3 u1 u3 i 1 index b is.0 is.1 0 apart_back in
        record {
          slots = m.others.slots;
          records = b.others.records;
          first = record { before = refl; after = one; count = m.others.count };
          second = record { before = refl; after = two ∙ sym one; count = refl };
          alone = λ same. probing_with f.p3 m (ap (note_finger i u1) same ∙ there);
          both = probing_with u3 b there;
        }

  -- among those that are counted
  module _ (fits : f.h1 < 2 ^ 64) (few : overflow_count f.h1 < 31) where
    abbrev l1 : ℕ
    l1 = raised_count f.h1

    counted_with : IsWith f note (record f { h1 = l1 })
    counted_with stashed exact =
        subst (λ ns. AreExact (ns ++ notes_by f.p1 f.p3 1) (overflow_count l1) stashed) (sym (raised_lists f.h1 fits few f.h3 0))
        (subst (λ c. AreExact (notes_four f) c stashed) (sym (raised f.h1 fits few)) (exact_counted (notes_four f) (overflow_count f.h1) note stashed exact))

    counted_notes : Notes f note (record { bucket = Home; mark = l1; fingers = f.h3 })
    counted_notes = record {
      slots = raised_slots f.h1 fits few;
      records = refl;
      first = record { before = raised_lists f.h1 fits few f.h3 1; after = refl; count = refl };
      second = record { before = refl; after = refl; count = refl };
      alone = λ same. counted_with;
      both = counted_with;
    }

-- ---- by where the note is put
abbrev pub four_of : List ℕ → List ℕ → Four
four_of home probing = record { h1 = slice_index home 1; h3 = slice_index home 3; p1 = slice_index probing 1; p3 = slice_index probing 3 }

module _ (home probing : List ℕ) (finger index : ℕ) (small : finger < 2 ^ 8) (index_bit : index < 2) (small_home : slice_index home 1 < 2 ^ 64) (small_probing : slice_index probing 1 < 2 ^ 64)
    (few : overflow_count (slice_index home 1) < 31) where
  abbrev f : Four
  f = four_of home probing

  abbrev counted : NoteWords
  counted = record { bucket = Home; mark = raised_count (slice_index home 1); fingers = slice_index home 3 }

  notes_at : (a b : Option ℕ) → unused_place (slice_index home 1) ≡ a → unused_place (slice_index probing 1) ≡ b
      → Notes f (finger, index) (noted_or Home home finger index a (noted_or Probing probing finger index b counted))
  notes_at (Some i) b e g = home_notes f finger index small index_bit small_home i (unused_is (slice_index home 1) i e)
  notes_at None (Some i) e g = probing_notes f finger index small index_bit small_probing i (unused_is (slice_index probing 1) i g)
  notes_at None None e g = counted_notes f finger index small index_bit small_home few

  pub notes : Notes f (finger, index) (noted_by home probing finger index)
  notes = notes_at _ _ refl refl
