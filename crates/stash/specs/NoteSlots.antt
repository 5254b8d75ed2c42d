-- The note slots of a bucket, and what a change of one of them leaves as it was.
use Rattle.std.specs.Prelude.{◌≡◌, ◌≢◌, ℕ, ◌<◌, replicate, slice_index}
use Rattle.bucket_meta.specs.declared.metadata.Meta.{Meta}
use Rattle.word_bits.specs.Bits.{bit}
use Rattle.bucket_meta.specs.Bucket.{note_slots}
use Rattle.bucket_meta.specs.Notes.{OverflowNote}

-- what a note slot holds: whether it is used, on which side its note is (`home_side`: of a record of this home, `probing_side`: of a
-- record whose probing bucket this is), and which stash bucket and fingerprint the note names
pub record NoteSlot : Type 0 where
  pub used : ℕ
  pub side : ℕ
  pub index : ℕ
  pub finger : ℕ

-- note slot i, of 4
abbrev pub note_slot_at : Meta → ℕ → NoteSlot
note_slot_at meta i = record { used = bit i meta.used; side = bit i meta.omember; index = bit i meta.oindex; finger = slice_index meta.ofps i }

-- a note slot that is used for a note of this side
abbrev pub filled_note_slot : ℕ → OverflowNote → NoteSlot
filled_note_slot side note = record { used = 1; side = side; index = note.1; finger = note.0 }

-- a note slot that was freed
abbrev pub freed_note_slot : NoteSlot
freed_note_slot = record { used = 0; side = 0; index = 0; finger = 0 }

-- note slot i holds no note
abbrev pub IsUnused : Meta → ℕ → Type 0
IsUnused meta i = bit i meta.used ≡ 0

-- note slot i holds this note on this side
abbrev pub IsNoteAt : Meta → ℕ → OverflowNote → ℕ → Type 0
IsNoteAt meta side note i = note_slot_at meta i ≡ filled_note_slot side note

-- i is the lowest of the 4 note slots of which P holds
pub record IsLowest (P : ℕ → Type 0) (i : ℕ) : Type 0 where
  pub within : i < note_slots
  pub here : P i
  pub below : (j : ℕ) → j < i → ¬ P j

-- P holds of none of the 4 note slots
abbrev pub HoldsNowhere : (ℕ → Type 0) → Type 0
HoldsNowhere P = (i : ℕ) → i < note_slots → ¬ P i

-- all that is said of the record slots is as it was
pub record SameSlots (old new : Meta) : Type 0 where
  pub alloc : new.alloc ≡ old.alloc
  pub member : new.member ≡ old.member
  pub fps : new.fps ≡ old.fps

-- one note slot was overwritten, and all else is as it was
pub record NoteSlotBecomes (old new : Meta) (i : ℕ) (note_slot : NoteSlot) : Type 0 where
  pub here : note_slot_at new i ≡ note_slot
  pub elsewhere : (j : ℕ) → j ≢ i → note_slot_at new j ≡ note_slot_at old j
  pub ocount : new.ocount ≡ old.ocount
  pub slots : SameSlots old new

-- the count of records without a note was overwritten, and all else is as it was
pub record CountBecomes (old new : Meta) (count : ℕ) : Type 0 where
  pub ocount : new.ocount ≡ count
  pub note_slots : (i : ℕ) → note_slot_at new i ≡ note_slot_at old i
  pub slots : SameSlots old new

-- a bucket that says nothing of the stash
pub record IsBare (meta : Meta) : Type 0 where
  pub used : meta.used ≡ 0
  pub omember : meta.omember ≡ 0
  pub oindex : meta.oindex ≡ 0
  pub ocount : meta.ocount ≡ 0
  pub ofps : meta.ofps ≡ replicate note_slots 0
