-- The records of an image, its pairs, and its overflow notes.
use Rattle.std.specs.Prelude.{◌≡◌, ℕ, ◌+◌, ◌<◌, Option, None, Some, List}
pub use Rattle.image_layout.specs.Keys.{key_hash}
use Rattle.image_layout.specs.Notes.{OverflowNote, notes_by}
use Rattle.image_layout.specs.Bucket.{mark_place, rest_place, allocated, record_slots}
use Rattle.image_layout.specs.Places.{Shape, buckets, bucket_at, key_at, value_at}
use Rattle.image_layout.specs.Standing as standing
use Rattle.sound_image.specs.Segments.{ImageWords, frame_of, Owns}

module _ (shape : Shape) (word : ImageWords) where
  -- RECORDS: slot r of bucket b of segment s
  -- word i of the bucket
  abbrev pub word_in : ℕ → ℕ → ℕ → ℕ
  word_in s b i = word (bucket_at shape s b + i)

  abbrev pub slot_key : ℕ → ℕ → ℕ → ℕ
  slot_key s b r = word (key_at shape s b r)

  abbrev pub slot_value : ℕ → ℕ → ℕ → ℕ
  slot_value s b r = word (value_at shape s b r)

  abbrev pub slot_hash : ℕ → ℕ → ℕ → ℕ
  slot_hash s b r = key_hash shape (slot_key s b r)

  -- a record stands where the slot is allocated
  pub record HasRecord (s b r : ℕ) : Type 0 where
    pub segment : s < shape.segments
    pub bucket : b < buckets
    pub slot : r < record_slots
    pub is_allocated : allocated r (word_in s b mark_place) ≡ 1

  -- a record in the segment that owns its key's hash
  pub record HasOwnRecord (s b r : ℕ) : Type 0 where
    pub record_there : HasRecord s b r
    pub owned : Owns (frame_of shape word) s (slot_hash s b r)

  -- PAIRS: the keys and values of all records in their owners
  pub record HasPair (k v : ℕ) : Type 0 where
    pub s : ℕ
    pub b : ℕ
    pub r : ℕ
    pub own : HasOwnRecord s b r
    pub key_is : slot_key s b r ≡ k
    pub value_is : slot_value s b r ≡ v

  -- what the image has at a key
  abbrev pub HasAt : ℕ → Option ℕ → Type 0
  HasAt k None = (v : ℕ) → HasPair k v → ⊥
  HasAt k (Some v) = HasPair k v

  -- OVERFLOW NOTES of a home bucket
  -- the notes in bucket b of records that have it as their home (`home_side`) or as their probing bucket (`probing_side`)
  abbrev pub notes_in : ℕ → ℕ → ℕ → List OverflowNote
  notes_in s b side = notes_by (word_in s b mark_place) (word_in s b rest_place) side

  -- and those of home b in its bucket and its probing bucket
  abbrev pub notes_of : ℕ → ℕ → List OverflowNote
  notes_of s b = standing.notes_of (λ c. word_in s c mark_place) (λ c. word_in s c rest_place) b

  -- the records of home b in stash bucket k, and in both
  abbrev pub stashed_in : ℕ → ℕ → ℕ → List OverflowNote
  stashed_in s b k = standing.stashed_in (λ c. word_in s c mark_place) (slot_key s) (key_hash shape) b k

  abbrev pub stashed_of : ℕ → ℕ → List OverflowNote
  stashed_of s b = standing.stashed_of (λ c. word_in s c mark_place) (slot_key s) (key_hash shape) b

  -- the notes and the count of home b are exact for its records in the stash
  abbrev pub HasExactNotes : ℕ → ℕ → Type 0
  HasExactNotes s b = standing.HasExactNotes (λ c. word_in s c mark_place) (λ c. word_in s c rest_place) b (stashed_of s b)
