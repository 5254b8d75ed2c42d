-- What a home has noted of its records in the stash, by the words of its segment: beside a store, and for one fingerprint.
use Rattle.std.specs.Prelude.{◌≡◌, ℕ}
use Rattle.bucket_meta.specs.Bucket.{mark_place, overflow_count}
use Rattle.bucket_meta.specs.Notes.{how_often}
use Rattle.trace.specs.Events.{Words}
use Rattle.image_layout.specs.Places.{Shape}
use Rattle.segment_table.specs.Records.{word_in, notes_of, stashed_of}

-- what home b of segment s has noted, and what it has in the stash, is as it was
pub record SameHomeNotes (shape : Shape) (word other : Words) (s b : ℕ) : Type 0 where
  pub notes : notes_of shape other s b ≡ notes_of shape word s b
  pub count : overflow_count (word_in shape other s b mark_place) ≡ overflow_count (word_in shape word s b mark_place)
  pub stashed : stashed_of shape other s b ≡ stashed_of shape word s b

-- the notes of home b name no record of fingerprint f in stash bucket c, and each of its records has a note
pub record IsUnnoted (shape : Shape) (word : Words) (s b f c : ℕ) : Type 0 where
  pub none : how_often (f, c) (notes_of shape word s b) ≡ 0
  pub counted : overflow_count (word_in shape word s b mark_place) ≡ 0
