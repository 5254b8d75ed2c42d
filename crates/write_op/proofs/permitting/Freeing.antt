-- What is stored to take a note away: in lists, the notes of the home are without it then, and those of its neighbours stay.
use Rattle.std.proofs.Common.{◌≡◌, ◌⊎◌, ℕ, ◌%◌, ◌^◌, ◌<◌, Option, None, Some, List, ◌∷◌, ◌++◌, inl, inr, refl, sym, ◌∙◌, subst, arith, slice_index}
use Rattle.std.proofs.lemmas.Bool.{cases_eq}
use Rattle.bucket_meta.specs.Bucket.{overflow_count}
use Rattle.bucket_meta.specs.Notes.{OverflowNote, how_often, AreExact, notes_by}
use Rattle.bucket_meta.specs.NoteWords.{note_place, freed_mark, freed_fingers, lowered_count, FreesPlace}
use Rattle.bucket_meta.proofs.notes.Freed.{frees_mark, frees_place}
use Rattle.bucket_meta.proofs.Counts.{how_often-append}
use Rattle.bucket_meta.proofs.ExactNotes.{more_left, more_right, often_head, each_is_named, same_or_other, exact_without_note, exact_without_count}
use Rattle.world.proofs.stepping.Telling.{unnamed}
use Rattle.phase.specs.declared.role.Role.{Role}
use Rattle.phase.specs.declared.role.Role.TheVariants.{Home, Probing}
use Rattle.phase.proofs.Noting.{Four, notes_four, KeepsBeside, apart, apart_back}
use Rattle.write_op.specs.declared.search.NoteWords.{NoteWords}
use Rattle.write_op.specs.Search.{freed_or, unnoted_by}
use Rattle.write_op.proofs.permitting.Noted.{IsThere, finds_note, one_less, other_side, lowered_lists, lowered, lowered_slots}

abbrev pub one_of : Role → Four → ℕ
one_of Home f = f.h1
one_of Probing f = f.p1
one_of place f = 0

abbrev pub three_of : Role → Four → ℕ
three_of Home f = f.h3
three_of Probing f = f.p3
three_of place f = 0

abbrev pub with_one : Role → ℕ → Four → Four
with_one Home x f = record f { h1 = x }
with_one Probing x f = record f { p1 = x }
with_one place x f = f

abbrev pub with_three : Role → ℕ → Four → Four
with_three Home x f = record f { h3 = x }
with_three Probing x f = record f { p3 = x }
with_three place x f = f

-- notes that were exact for a record more are so for the others
abbrev pub IsWithout : Four → OverflowNote → Four → Type 0
IsWithout f note g = (stashed : List OverflowNote) → AreExact (notes_four f) (overflow_count f.h1) (note ∷ stashed) → AreExact (notes_four g) (overflow_count g.h1) stashed

-- what the two stores do
pub record Unnotes (f : Four) (note : OverflowNote) (n : NoteWords) : Type 0 where
  pub near : (n.place ≡ Home) ⊎ (n.place ≡ Probing)
  pub slots : n.mark % 2 ^ 28 ≡ one_of n.place f % 2 ^ 28
  pub records : n.fingers % 2 ^ 48 ≡ three_of n.place f % 2 ^ 48
  pub first : KeepsBeside f (with_one n.place n.mark f)
  pub second : KeepsBeside (with_one n.place n.mark f) (with_three n.place n.fingers (with_one n.place n.mark f))
  pub alone : three_of n.place f ≡ n.fingers → IsWithout f note (with_one n.place n.mark f)
  pub both : IsWithout f note (with_three n.place n.fingers (with_one n.place n.mark f))

module _ (f : Four) (finger index : ℕ) where
  abbrev note : OverflowNote
  note = (finger, index)

  -- in the home bucket
  module _ (fits : f.h1 < 2 ^ 64) (i : ℕ) (t : IsThere f.h1 f.h3 0 finger index i) where
    abbrev x1 : ℕ
    x1 = freed_mark f.h1 i

    home_without : (x3 : ℕ) → FreesPlace f.h1 f.h3 x1 x3 i → IsWithout f note (record f { h1 = x1; h3 = x3 })
    home_without x3 frees stashed exact = subst (λ c. AreExact (notes_by x1 x3 0 ++ notes_by f.p1 f.p3 1) c stashed) (sym frees.others.count)
        (exact_without_note (notes_four f) (notes_by x1 x3 0 ++ notes_by f.p1 f.p3 1) (overflow_count f.h1) note stashed
        (more_left (notes_by f.h1 f.h3 0) (notes_by x1 x3 0) (notes_by f.p1 f.p3 1) note (one_less f.h1 f.h3 x1 x3 i frees t.low 0 finger index t)) exact)

    home_unnotes : Unnotes f note (record { place = Home; mark = x1; fingers = freed_fingers f.h3 i })
    home_unnotes =
        let m = frees_mark f.h1 i fits t.low f.h3 in
        let b = frees_place f.h1 f.h3 i fits t.low in
        let one = other_side f.h1 f.h3 x1 f.h3 i m t.low 0 finger index t 1 apart in
        let two = other_side f.h1 f.h3 x1 (freed_fingers f.h3 i) i b t.low 0 finger index t 1 apart in
        record {
          near = inl refl;
          slots = m.others.slots;
          records = b.others.records;
          first = record { before = one; after = refl; count = refl };
          second = record { before = two ∙ sym one; after = refl; count = refl };
          alone = λ same. home_without f.h3 m;
          both = home_without (freed_fingers f.h3 i) b;
        }

  -- in the probing bucket
  module _ (fits : f.p1 < 2 ^ 64) (i : ℕ) (t : IsThere f.p1 f.p3 1 finger index i) where
    abbrev u1 : ℕ
    u1 = freed_mark f.p1 i

    probing_without : (x3 : ℕ) → FreesPlace f.p1 f.p3 u1 x3 i → IsWithout f note (record f { p1 = u1; p3 = x3 })
    probing_without x3 frees stashed exact =
        exact_without_note (notes_four f) (notes_by f.h1 f.h3 0 ++ notes_by u1 x3 1) (overflow_count f.h1) note stashed
        (more_right (notes_by f.p1 f.p3 1) (notes_by u1 x3 1) (notes_by f.h1 f.h3 0) note (one_less f.p1 f.p3 u1 x3 i frees t.low 1 finger index t)) exact

    probing_unnotes : Unnotes f note (record { place = Probing; mark = u1; fingers = freed_fingers f.p3 i })
    probing_unnotes =
        let m = frees_mark f.p1 i fits t.low f.p3 in
        let b = frees_place f.p1 f.p3 i fits t.low in
        let one = other_side f.p1 f.p3 u1 f.p3 i m t.low 1 finger index t 0 apart_back in
        let two = other_side f.p1 f.p3 u1 (freed_fingers f.p3 i) i b t.low 1 finger index t 0 apart_back in
        record {
          near = inr refl;
          slots = m.others.slots;
          records = b.others.records;
          first = record { before = refl; after = one; count = m.others.count };
          second = record { before = refl; after = two ∙ sym one; count = refl };
          alone = λ same. probing_without f.p3 m;
          both = probing_without (freed_fingers f.p3 i) b;
        }

  -- among those that are counted
  own_note : (stashed : List OverflowNote) → 0 < how_often note (note ∷ stashed)
  own_note stashed = elim (same_or_other note note) [
    | inl same ↦ (let a = same.1 in let b = often_head note note stashed in omega (arith, a, b))
    | inr differs ↦ absurd (differs.0 refl)
  ]

  module _ (unnamed_here : how_often note (notes_four f) ≡ 0) where
    some_counted : (stashed : List OverflowNote) → AreExact (notes_four f) (overflow_count f.h1) (note ∷ stashed) → 0 < overflow_count f.h1
    some_counted stashed exact = elim (cases_eq (overflow_count f.h1) 0) [
      | inl zero_count ↦ (let named = each_is_named (notes_four f) (note ∷ stashed) (overflow_count f.h1) note exact zero_count (own_note stashed) in absurd (omega (arith, named, unnamed_here)))
      | inr some ↦ omega (arith, some)
    ]

    module _ (some : 0 < overflow_count f.h1) where
      abbrev l1 : ℕ
      l1 = lowered_count f.h1

      counted_without : IsWithout f note (record f { h1 = l1 })
      counted_without stashed exact =
          subst (λ ns. AreExact (ns ++ notes_by f.p1 f.p3 1) (overflow_count l1) stashed) (sym (lowered_lists f.h1 some f.h3 0))
          (subst (λ c. AreExact (notes_four f) c stashed) (sym (lowered f.h1 some)) (exact_without_count (notes_four f) (overflow_count f.h1) note stashed unnamed_here some exact))

      counted_unnotes : Unnotes f note (record { place = Home; mark = l1; fingers = f.h3 })
      counted_unnotes = record {
        near = inl refl;
        slots = lowered_slots f.h1 some;
        records = refl;
        first = record { before = lowered_lists f.h1 some f.h3 1; after = refl; count = refl };
        second = record { before = refl; after = refl; count = refl };
        alone = λ same. counted_without;
        both = counted_without;
      }

-- ---- by where the note is
module _ (home probing : List ℕ) (finger index : ℕ) (small_home : slice_index home 1 < 2 ^ 64) (small_probing : slice_index probing 1 < 2 ^ 64) where
  abbrev pub four_of : Four
  four_of = record { h1 = slice_index home 1; h3 = slice_index home 3; p1 = slice_index probing 1; p3 = slice_index probing 3 }

  abbrev counted : NoteWords
  counted = record { place = Home; mark = lowered_count (slice_index home 1); fingers = slice_index home 3 }

  unnotes_by : (stashed : List OverflowNote) → AreExact (notes_four four_of) (overflow_count (slice_index home 1)) ((finger, index) ∷ stashed) → (a b : Option ℕ)
      → note_place (slice_index home 1) (slice_index home 3) 0 finger index ≡ a → note_place (slice_index probing 1) (slice_index probing 3) 1 finger index ≡ b
      → Unnotes four_of (finger, index) (freed_or Home home a (freed_or Probing probing b counted))
  unnotes_by stashed exact (Some i) b e g = home_unnotes four_of finger index small_home i ((finds_note (slice_index home 1) (slice_index home 3) 0 finger index).some i e)
  unnotes_by stashed exact None (Some i) e g = probing_unnotes four_of finger index small_probing i ((finds_note (slice_index probing 1) (slice_index probing 3) 1 finger index).some i g)
  unnotes_by stashed exact None None e g =
      let h = unnamed (slice_index home 1) (slice_index home 3) 0 finger index ((finds_note (slice_index home 1) (slice_index home 3) 0 finger index).none e) in
      let p = unnamed (slice_index probing 1) (slice_index probing 3) 1 finger index ((finds_note (slice_index probing 1) (slice_index probing 3) 1 finger index).none g) in
      let a = how_often-append (finger, index) (notes_by (slice_index home 1) (slice_index home 3) 0) (notes_by (slice_index probing 1) (slice_index probing 3) 1) in
      let none : how_often (finger, index) (notes_four four_of) ≡ 0 = omega (arith, h, p, a) in
      counted_unnotes four_of finger index none (some_counted four_of finger index none stashed exact)

  pub unnotes : (stashed : List OverflowNote) → AreExact (notes_four four_of) (overflow_count (slice_index home 1)) ((finger, index) ∷ stashed) → Unnotes four_of (finger, index) (unnoted_by home probing finger index)
  unnotes stashed exact = unnotes_by stashed exact _ _ refl refl
