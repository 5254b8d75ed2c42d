-- Notes and stash records that are counted: all, or those that are the one that is sought.
use Rattle.std.specs.Prelude.{◌≡◌, ℕ, ◌<◌, ◌≤◌, ◌==◌, ◌&&◌, Bool, true, Option, None, Some, List, length, filter}
use Rattle.std.specs.List.{flat_map}
use Rattle.hash_word.specs.Hash.{home_of}
use Rattle.bucket_meta.specs.Bucket.{allocated, mark_place, rest_place, note_used, note_member, note_index, note_finger}
use Rattle.bucket_meta.specs.Notes.{OverflowNote, numbers_below, how_often, IsNoteOn, note_piece}
use Rattle.image_layout.specs.Places.{Shape, stash_bucket}
use Rattle.image_layout.specs.Standing.{stash_piece}
use Rattle.sound_image.specs.Segments.{ImageWords}
use Rattle.sound_image.specs.Records.{word_in, slot_hash, notes_of, stashed_of}
use Rattle.image_rules.specs.declared.record_slot.RecordSlot.{RecordSlot}
use Rattle.image_rules.specs.declared.notes.OverflowNote.{OverflowNote as Sought}

-- the note is the one that is sought; each is where none is
abbrev pub matches : Option Sought → OverflowNote → Bool
matches None note = true
matches (Some sought) note = (note.0 == sought.finger) && (note.1 == sought.index)

abbrev pub how_many : Option Sought → List OverflowNote → ℕ
how_many sought notes = length (filter (matches sought) notes)

-- the note on a note slot of a bucket, if there is one for records of this side
abbrev pub piece_on : ℕ → ℕ → ℕ → ℕ → List OverflowNote
piece_on w1 w3 side i = note_piece side (note_used i w1) (note_member i w1) (note_finger i w1 w3) (note_index i w1)

-- those on its note slots below a limit
abbrev pub noted : ℕ → ℕ → ℕ → ℕ → List OverflowNote
noted w1 w3 side limit = flat_map (λ i. piece_on w1 w3 side i) (numbers_below limit)

module _ (shape : Shape) (word : ImageWords) where
  -- the record slot has a record of home b
  pub record IsStashed (b : ℕ) (record_slot : RecordSlot) : Type 0 where
    pub taken : allocated record_slot.slot (word_in shape word record_slot.segment record_slot.bucket mark_place) ≡ 1
    pub home : home_of (slot_hash shape word record_slot.segment record_slot.bucket record_slot.slot) ≡ b

  -- the record in a slot of stash bucket k, if there is one of home b
  abbrev pub piece_in : ℕ → ℕ → ℕ → ℕ → List OverflowNote
  piece_in s b k r = stash_piece b k (allocated r (word_in shape word s (stash_bucket k) mark_place)) (slot_hash shape word s (stash_bucket k) r)

  -- those in its slots below a limit
  abbrev pub stashed_below : ℕ → ℕ → ℕ → ℕ → List OverflowNote
  stashed_below s b k limit = flat_map (λ r. piece_in s b k r) (numbers_below limit)

  -- if there is a note of home b on a note slot of bucket c, of one side, it stands at most as often among its notes as its
  -- record does in the stash
  abbrev pub IsNamed : ℕ → ℕ → ℕ → ℕ → ℕ → Type 0
  IsNamed s b c side i =
      IsNoteOn (word_in shape word s c mark_place) side i
      → how_often (note_finger i (word_in shape word s c mark_place) (word_in shape word s c rest_place), note_index i (word_in shape word s c mark_place)) (notes_of shape word s b)
      ≤ how_often (note_finger i (word_in shape word s c mark_place) (word_in shape word s c rest_place), note_index i (word_in shape word s c mark_place)) (stashed_of shape word s b)

  -- so is each on a note slot below a limit
  abbrev pub AreNamed : ℕ → ℕ → ℕ → ℕ → ℕ → Type 0
  AreNamed s b c side limit = (i : ℕ) → i < limit → IsNamed s b c side i
