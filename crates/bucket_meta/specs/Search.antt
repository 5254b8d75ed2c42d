-- The words of one bucket, by their numbers in it: where a key stands, and where a free slot is.
use Rattle.std.specs.Prelude.{◌≡◌, ℕ, zero, suc, ◌+◌, Bool, not, ◌==◌, ◌&&◌, Option, None, Some, List, slice_index, if◌then◌else◌}
use Rattle.bucket_meta.specs.Bucket.{allocated, record_slots, mark_place, key_place}

-- the lowest number, of n from one on, of which this holds
unfoldable pub lowest_among : (ℕ → Bool) → ℕ → ℕ → Option ℕ
lowest_among holds at zero = None
lowest_among holds at (suc n) = if holds at then Some at else lowest_among holds (at + 1) n

-- a slot is taken, by the metadata word
abbrev pub is_taken : ℕ → ℕ → Bool
is_taken w1 slot = allocated slot w1 == 1

-- record slot s of the bucket has a record of this key
pub record IsThere (words : List ℕ) (key s : ℕ) : Type 0 where
  pub taken : allocated s (slice_index words mark_place) ≡ 1
  pub has_key : slice_index words (key_place s) ≡ key

-- the same as a test
abbrev pub is_there : List ℕ → ℕ → ℕ → Bool
is_there words key s = is_taken (slice_index words mark_place) s && (slice_index words (key_place s) == key)

-- the lowest taken slot with the key
abbrev pub lowest_with : List ℕ → ℕ → Option ℕ
lowest_with words key = lowest_among (is_there words key) 0 record_slots

-- the lowest free slot
abbrev pub lowest_free : ℕ → Option ℕ
lowest_free w1 = lowest_among (λ slot. not (is_taken w1 slot)) 0 record_slots
