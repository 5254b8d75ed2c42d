-- What a picture of an image counts: the records of each bucket, and the records that a home bucket says stand in the stash, by its notes
-- and its count.
use Rattle.std.specs.Prelude.{ℕ, zero, suc, ◌+◌, ◌==◌, nat_lt, length, filter, if◌then◌else◌}
use Rattle.bucket_meta.specs.Bucket.{mark_place, records_of, note_slots, note_used, overflow_count}
use Rattle.bucket_meta.specs.Notes.{numbers_below}
use Rattle.image_layout.specs.Places.{Shape, bucket_at}
use Rattle.sound_image.specs.Segments.{ImageWords}

-- how many of the first n note slots hold a note
abbrev pub notes_below : ℕ → ℕ → ℕ
notes_below n w1 = length (filter (λ i. note_used i w1 == 1) (numbers_below n))

module _ (shape : Shape) (word : ImageWords) (s b : ℕ) where
  -- how many records bucket b of segment s has
  abbrev pub filled : ℕ
  filled = records_of (word (bucket_at shape s b + mark_place))

  -- how many it says that the stash has for it: one a note, and those that are only counted
  abbrev pub stashed : ℕ
  stashed = notes_below note_slots (word (bucket_at shape s b + mark_place)) + overflow_count (word (bucket_at shape s b + mark_place))

-- how many the first n buckets of segment s say that the stash has for them, together
abbrev pub stashed_below : ℕ → Shape → ImageWords → ℕ → ℕ
stashed_below zero shape word s = 0
stashed_below (suc n) shape word s = stashed_below n shape word s + stashed shape word s n

-- the sign of a bucket with so many records: a dot for none, then 1 to 9 and a to e
abbrev pub sign : ℕ → ℕ
sign n = if n == 0 then 46 else if nat_lt n 10 then 48 + n else 87 + n
