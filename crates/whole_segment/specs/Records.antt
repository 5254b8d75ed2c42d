-- The records of one segment, by word 1 of each of its buckets and the key in each of its record slots; and which of them another
-- segment, or a half of this one, covers.
use Rattle.std.specs.Prelude.{◌≡◌, ℕ, ◌<◌, ◌↔◌, Bool, ◌==◌, ◌&&◌, List, slice_index}
use Rattle.hash_word.specs.Hash.{Covers, top}
use Rattle.bucket_meta.specs.Bucket.{allocated, record_slots, mark_place, rest_place, key_place}
use Rattle.bucket_meta.specs.Search.{is_taken}
use Rattle.bucket_meta.specs.Marks.{copied_mark, cleared_mark}
use Rattle.image_layout.specs.Places.{buckets, slot_among_buckets}
use Rattle.whole_segment.specs.Words.{word_of_bucket}
use Rattle.whole_segment.specs.Slots.{set_of}
use Rattle.whole_segment.specs.declared.loaded.Loaded.{Loaded}

-- ---- what is loaded of a segment
-- word 1 of bucket b
abbrev pub first_in : Loaded → ℕ → ℕ
first_in loaded b = slice_index loaded.first b

-- word 3 of bucket b
abbrev pub third_in : Loaded → ℕ → ℕ
third_in loaded b = slice_index loaded.third b

-- the key in slot r of bucket b
abbrev pub key_in : Loaded → ℕ → ℕ → ℕ
key_in loaded b r = slice_index loaded.keys (slot_among_buckets b r)

-- the same of the words of its buckets as a list
module _ (words : List ℕ) where
  abbrev pub first_of : ℕ → ℕ
  first_of b = word_of_bucket words b mark_place

  abbrev pub third_of : ℕ → ℕ
  third_of b = word_of_bucket words b rest_place

  abbrev pub key_of : ℕ → ℕ → ℕ
  key_of b r = word_of_bucket words b (key_place r)

  -- what is loaded is what these words have
  pub record HasWords (loaded : Loaded) : Type 0 where
    pub first : (b : ℕ) → b < buckets → first_in loaded b ≡ first_of b
    pub third : (b : ℕ) → b < buckets → third_in loaded b ≡ third_of b
    pub keys : (b r : ℕ) → b < buckets → r < record_slots → key_in loaded b r ≡ key_of b r

-- ---- its records
module _ (first : ℕ → ℕ) (key : ℕ → ℕ → ℕ) where
  -- a record of key k stands in slot r of bucket b
  pub record Stands (b r k : ℕ) : Type 0 where
    pub bucket : b < buckets
    pub slot : r < record_slots
    pub taken : allocated r (first b) ≡ 1
    pub has_key : key b r ≡ k

  -- slot r of bucket b is taken by a record whose hash is covered by a segment of this depth and pattern
  pub record IsCovered (hash : ℕ → ℕ) (depth pattern b r : ℕ) : Type 0 where
    pub taken : allocated r (first b) ≡ 1
    pub covers : Covers depth pattern (hash (key b r))

  -- so it is, as a test, and the slots of bucket b with such records as a set
  abbrev pub is_covered : (hash : ℕ → ℕ) → ℕ → ℕ → ℕ → ℕ → Bool
  is_covered hash depth pattern b r = is_taken (first b) r && (top depth (hash (key b r)) == pattern)

  abbrev pub covered_set : (hash : ℕ → ℕ) → ℕ → ℕ → ℕ → ℕ
  covered_set hash depth pattern b = set_of (is_covered hash depth pattern b)

  -- word 1 of bucket b with these records alone, and without them
  abbrev pub covered_first : (hash : ℕ → ℕ) → ℕ → ℕ → ℕ → ℕ
  covered_first hash depth pattern b = copied_mark (first b) (covered_set hash depth pattern b)

  abbrev pub uncovered_first : (hash : ℕ → ℕ) → ℕ → ℕ → ℕ → ℕ
  uncovered_first hash depth pattern b = cleared_mark (first b) (covered_set hash depth pattern b)

-- HALVES OF A SEGMENT, by word 1 of each bucket of the whole, of the copy and of the rest: the copy has the records that a segment of
-- this depth and pattern covers, in the same buckets and slots, and the rest has the others
pub record AreSides (first copy rest : ℕ → ℕ) (key : ℕ → ℕ → ℕ) (hash : ℕ → ℕ) (depth pattern : ℕ) : Type 0 where
  pub copied : (b r k : ℕ) → Stands copy key b r k ↔ (Stands first key b r k × Covers depth pattern (hash k))
  pub stayed : (b r k : ℕ) → Stands rest key b r k ↔ (Stands first key b r k × (Covers depth pattern (hash k) → ⊥))
