-- A note slot that is filled or freed adds a note to those of a home, or takes one away.
use Rattle.std.proofs.Common.{◌≡◌, ◌≢◌, ℕ, ◌+◌, ◌<◌, eqb, true, List, [], ◌∷◌, ap, sym, ◌∙◌, refl, inl, inr, arith, eq-eqb, Option, Some, None, MatchOption}
use Rattle.std.proofs.Math.Nat.{eq-zero-or-pos}
use Rattle.std.proofs.lemmas.Bool.{cases_lt}
use Rattle.std.proofs.lemmas.Bool.Decides.{eqb_tells}
use Rattle.bucket_meta.specs.declared.metadata.Meta.{Meta}
use Rattle.bucket_meta.specs.Notes.{OverflowNote, how_often}
use Rattle.stash.specs.Exact.{notes_at, notes_of, IsExactFor, IsNotedOrCounted}
use Rattle.stash.specs.NoteSlots.{NoteSlot, note_slot_at, filled_note_slot, freed_note_slot, IsUnused, IsNoteAt, NoteSlotBecomes, IsLowest, HoldsNowhere}
use Rattle.bucket_meta.proofs.Counts.{how_often-is_sum, how_often-append, no_piece, piece_at_most}
use Rattle.bucket_meta.proofs.ExactNotes.{IsOneMore, one_more_by_sums, same_or_other, each_is_named}
use Rattle.stash.proofs.Pieces.{piece, piece_of_unused, this_side_changes}

-- ---- one note slot is filled or freed

-- the numbers of two sides, of which the one changes
one_side : (more less new old stays gave gives : ℕ) → more ≡ new + stays → less ≡ old + stays → new + gave ≡ old + gives → gave ≡ 0 → more ≡ less + gives
one_side more less new old stays gave gives a b c d = omega arith

other_side : (more less new old stays gave gives : ℕ) → more ≡ stays + new → less ≡ stays + old → new + gave ≡ old + gives → gave ≡ 0 → more ≡ less + gives
other_side more less new old stays gave gives a b c d = omega arith

pub filled_home : (home new probe : Meta) (k : ℕ) (note : OverflowNote) → NoteSlotBecomes home new k (filled_note_slot 0 note) → IsUnused home k → k < 4
    → IsOneMore (notes_of new probe) (notes_of home probe) note
filled_home home new probe k note becomes unused within =
    one_more_by_sums _ _ note (λ f is. one_side _ _ _ _ _ _ _ (is.both (notes_at new 0) (notes_at probe 1)) (is.both (notes_at home 0) (notes_at probe 1))
    (this_side_changes f is home new k 0 _ becomes within) (ap f (piece_of_unused 0 (note_slot_at home k) unused) ∙ is.none))

pub filled_probe : (home probe new : Meta) (k : ℕ) (note : OverflowNote) → NoteSlotBecomes probe new k (filled_note_slot 1 note) → IsUnused probe k → k < 4
    → IsOneMore (notes_of home new) (notes_of home probe) note
filled_probe home probe new k note becomes unused within =
    one_more_by_sums _ _ note (λ f is. other_side _ _ _ _ _ _ _ (is.both (notes_at home 0) (notes_at new 1)) (is.both (notes_at home 0) (notes_at probe 1))
    (this_side_changes f is probe new k 1 _ becomes within) (ap f (piece_of_unused 1 (note_slot_at probe k) unused) ∙ is.none))

pub freed_home : (home new probe : Meta) (k : ℕ) (note : OverflowNote) → NoteSlotBecomes home new k freed_note_slot → IsNoteAt home 0 note k → k < 4
    → IsOneMore (notes_of home probe) (notes_of new probe) note
freed_home home new probe k note becomes held within =
    one_more_by_sums _ _ note (λ f is. one_side _ _ _ _ _ _ _ (is.both (notes_at home 0) (notes_at probe 1)) (is.both (notes_at new 0) (notes_at probe 1))
    (sym (this_side_changes f is home new k 0 _ becomes within) ∙ ap (λ note_slot. f (notes_at new 0) + f (piece 0 note_slot)) held) is.none)

pub freed_probe : (home probe new : Meta) (k : ℕ) (note : OverflowNote) → NoteSlotBecomes probe new k freed_note_slot → IsNoteAt probe 1 note k → k < 4
    → IsOneMore (notes_of home probe) (notes_of home new) note
freed_probe home probe new k note becomes held within =
    one_more_by_sums _ _ note (λ f is. other_side _ _ _ _ _ _ _ (is.both (notes_at home 0) (notes_at probe 1)) (is.both (notes_at home 0) (notes_at new 1))
    (sym (this_side_changes f is probe new k 1 _ becomes within) ∙ ap (λ note_slot. f (notes_at new 1) + f (piece 1 note_slot)) held) is.none)

-- ---- a note that a note slot holds is among those of its side, and one that none holds is not

abbrev note_slot_with : ℕ → ℕ → ℕ → ℕ → NoteSlot
note_slot_with used side index finger = record { used = used; side = side; index = index; finger = finger }

same_note_slot : (u s i f v t j g : ℕ) → u ≡ v → s ≡ t → i ≡ j → f ≡ g → note_slot_with u s i f ≡ note_slot_with v t j g
same_note_slot u s i f v t j g a b c d = cc

piece_lacks : (side : ℕ) (note_slot : NoteSlot) (note : OverflowNote) → note_slot ≢ filled_note_slot side note → how_often note (piece side note_slot) ≡ 0
piece_lacks side note_slot note differs =
    elim (eqb_tells note_slot.used 1) [
      | inr unused ↦ rw (unused.0) refl
      | inl used ↦
          elim (eqb_tells note_slot.side side) [
            | inr aside ↦ rw (used.0, aside.0) refl
            | inl here ↦
                elim (same_or_other note (note_slot.finger, note_slot.index)) [
                  | inl same ↦ absurd (differs (same_note_slot note_slot.used note_slot.side note_slot.index note_slot.finger 1 side note.1 note.0 used.1 here.1
                      (sym (ap (λ n. n.1) same.0)) (sym (ap (λ n. n.0) same.0))))
                  | inr other ↦ rw (used.0, here.0) other.1
                ]
          ]
    ]

pub not_held : (meta : Meta) (side : ℕ) (note : OverflowNote) → HoldsNowhere (IsNoteAt meta side note) → how_often note (notes_at meta side) ≡ 0
not_held meta side note nowhere =
    no_piece (how_often note) (how_often-is_sum note) (λ i. piece side (note_slot_at meta i)) 4 (λ i within. piece_lacks side (note_slot_at meta i) note (nowhere i within))

piece_has : (side : ℕ) (note : OverflowNote) → how_often note (piece side (filled_note_slot side note)) ≡ 1
piece_has side note =
    let same : eqb side side ≡ true = eq-eqb side side refl in
    let once : how_often note (note ∷ []) ≡ 1 = elim (same_or_other note note) [ inl same ↦ same.1 | inr differs ↦ absurd (differs.0 refl) ] in
    rw same once

pub held : (meta : Meta) (side k : ℕ) (note : OverflowNote) → IsNoteAt meta side note k → k < 4 → 0 < how_often note (notes_at meta side)
held meta side k note here within =
    let gives : how_often note (piece side (note_slot_at meta k)) ≡ 1 = ap (λ note_slot. how_often note (piece side note_slot)) here ∙ piece_has side note in
    omega (arith, gives, piece_at_most (how_often note) (how_often-is_sum note) (λ i. piece side (note_slot_at meta i)) k 4 within)

-- ---- exact data has a note or a count for each record

pub of_exact : (home probe : Meta) (note : OverflowNote) (stashed : List OverflowNote) → IsExactFor home probe stashed → 0 < how_often note stashed → IsNotedOrCounted home probe note
of_exact home probe note stashed exact some =
    elim (eq-zero-or-pos home.ocount) [
      | inr counted ↦ omega (arith, counted)
      | inl none ↦ omega (arith, each_is_named (notes_of home probe) stashed home.ocount note exact none some)
    ]

-- where neither side has the note, the home has none
pub not_of_home : (home probe : Meta) (note : OverflowNote) → HoldsNowhere (IsNoteAt home 0 note) → HoldsNowhere (IsNoteAt probe 1 note) → how_often note (notes_of home probe) ≡ 0
not_of_home home probe note in_home in_probe =
    omega (arith, how_often-append note (notes_at home 0) (notes_at probe 1), not_held home 0 note in_home, not_held probe 1 note in_probe)

-- ---- the lowest note slot is one

pub one_lowest : (P : ℕ → Type 0) (a b : ℕ) → IsLowest P a → IsLowest P b → a ≡ b
one_lowest P a b first second =
    elim (cases_lt a b) [
      | inl less ↦ absurd (second.below a less first.here)
      | inr most ↦
          elim (cases_lt b a) [
            | inl less ↦ absurd (first.below b less second.here)
            | inr least ↦ omega arith
          ]
    ]

-- what is said of a result that is no `Some`
pub none_holds : (found : Option ℕ) (P : Type 0) (Q : ℕ → Type 0) → ((x : ℕ) → found ≡ Some x → ⊥) → MatchOption found P Q → P
none_holds None P Q never holds = holds
none_holds (Some x) P Q never holds = absurd (never x refl)
