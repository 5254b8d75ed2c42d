-- Where a key stands in a segment, and what it has: that is looked up in all buckets of the segment that owns its hash.
use Rattle.std.specs.Prelude.{◌≡◌, ℕ, zero, suc, ◌<◌, Option, None, Some}
use Rattle.std.specs.Option.{option_or}
use Rattle.bucket_meta.specs.Bucket.{record_slots}
use Rattle.trace.specs.Events.{Words}
use Rattle.image_layout.specs.Places.{Shape, bucket_at, buckets}
use Rattle.segment_table.specs.Records.{key_hash}
use Rattle.bucket_words.specs.Buckets.{IsTaken, key_in, find_below}
use Rattle.bucket_words.specs.Owners.{owner_of}

module _ (shape : Shape) (word : Words) where
  -- slot r of bucket b of segment s is taken by key k
  pub record Hit (s b r k : ℕ) : Type 0 where
    pub segment : s < shape.segments
    pub bucket : b < buckets
    pub slot : r < record_slots
    pub taken : IsTaken word (bucket_at shape s b) r
    pub key : key_in word (bucket_at shape s b) r ≡ k

  -- no slot of segment s is taken by key k
  abbrev pub HasNone : ℕ → ℕ → Type 0
  HasNone s k = (b r : ℕ) → Hit s b r k → ⊥

  -- none of bucket b there
  abbrev pub HasNoneIn : ℕ → ℕ → ℕ → Type 0
  HasNoneIn s b k = (r : ℕ) → Hit s b r k → ⊥

  -- none but slot r of bucket b
  abbrev pub HasOnly : ℕ → ℕ → ℕ → ℕ → Type 0
  HasOnly s b r k = (c t : ℕ) → Hit s c t k → (c ≡ b) × (t ≡ r)

  -- what a key has in the first n buckets of segment s: the value in the last bucket where it stands
  unfoldable pub find_from : ℕ → ℕ → ℕ → Option ℕ
  find_from s k zero = None
  find_from s k (suc b) = option_or (find_below word (bucket_at shape s b) k record_slots) (find_from s k b)

  -- in all buckets of a segment, where there is one
  abbrev pub find_by : Option ℕ → ℕ → Option ℕ
  find_by None k = None
  find_by (Some s) k = find_from s k buckets

  -- WHAT A KEY HAS, in the segment that owns its hash
  abbrev pub find : ℕ → Option ℕ
  find k = find_by (owner_of shape word (key_hash shape k)) k
