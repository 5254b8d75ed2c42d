-- The notes of a side are pieces of one note slot each, and a change of one note slot changes them by that note slot's note.
use Rattle.std.proofs.Common.{◌≡◌, ◌≢◌, ℕ, ◌+◌, ◌<◌, List, [], ap, sym, subst, ◌∙◌, refl, inl, inr}
use Rattle.std.proofs.lemmas.Bool.{cases_eq}
use Rattle.bucket_meta.specs.declared.metadata.Meta.{Meta}
use Rattle.bucket_meta.specs.Notes.{OverflowNote, note_piece}
use Rattle.stash.specs.Exact.{notes_at}
use Rattle.stash.specs.NoteSlots.{NoteSlot, note_slot_at, NoteSlotBecomes}
use Rattle.bucket_meta.proofs.Counts.{IsSum, same_pieces, changed_piece}

-- the note of a note slot, if it is of this side
abbrev pub piece : ℕ → NoteSlot → List OverflowNote
piece side note_slot = note_piece side note_slot.used note_slot.side note_slot.finger note_slot.index

pub piece_of_unused : (side : ℕ) (note_slot : NoteSlot) → note_slot.used ≡ 0 → piece side note_slot ≡ []
piece_of_unused side note_slot unused = rw unused refl

-- the notes of a side stay where each of its note slots gives what it gave
pub same_notes : (old new : Meta) (side : ℕ) → ((i : ℕ) → i < 4 → piece side (note_slot_at new i) ≡ piece side (note_slot_at old i)) → notes_at new side ≡ notes_at old side
same_notes old new side same = same_pieces (λ i. piece side (note_slot_at old i)) (λ i. piece side (note_slot_at new i)) 4 same

pub same_notes_of_note_slots : (old new : Meta) (side : ℕ) → ((i : ℕ) → note_slot_at new i ≡ note_slot_at old i) → notes_at new side ≡ notes_at old side
same_notes_of_note_slots old new side same = same_notes old new side (λ i within. ap (λ note_slot. piece side note_slot) (same i))

-- what holds of one number, and of each other one, holds of each
at_or_elsewhere : (P : ℕ → Type 0) (i k : ℕ) → P k → (i ≢ k → P i) → P i
at_or_elsewhere P i k here other =
    elim (cases_eq i k) [ inl same ↦ subst P (sym same) here | inr differs ↦ other differs ]

-- the side of which the overwritten note slot neither had a note nor has one
pub other_side_stays : (old new : Meta) (k side : ℕ) (note_slot : NoteSlot) → NoteSlotBecomes old new k note_slot
    → piece side (note_slot_at old k) ≡ [] → piece side note_slot ≡ [] → notes_at new side ≡ notes_at old side
other_side_stays old new k side note_slot becomes before after =
    let P : ℕ → Type 0 = λ i. piece side (note_slot_at new i) ≡ piece side (note_slot_at old i) in
    let here : P k = ap (λ p. piece side p) becomes.here ∙ after ∙ sym before in
    same_notes old new side (λ i within. at_or_elsewhere P i k here (λ other. ap (λ p. piece side p) (becomes.elsewhere i other)))

-- a number of the notes of the side that was overwritten
pub this_side_changes : (f : List OverflowNote → ℕ) → IsSum f → (old new : Meta) (k side : ℕ) (note_slot : NoteSlot) → NoteSlotBecomes old new k note_slot → k < 4
    → f (notes_at new side) + f (piece side (note_slot_at old k)) ≡ f (notes_at old side) + f (piece side note_slot)
this_side_changes f is old new k side note_slot becomes within =
    changed_piece f is (λ i. piece side (note_slot_at old i)) (λ i. piece side (note_slot_at new i)) k 4 within (λ i below other. ap (λ p. piece side p) (becomes.elsewhere i other))
    ∙ ap (λ p. f (notes_at old side) + f (piece side p)) becomes.here
