-- When two images agree but for locks and overflow parts: for the lock words of buckets, and for what their metadata
-- say of notes and of counts.
use Rattle.std.specs.Prelude.{◌≡◌, ℕ, ◌+◌, ◌<◌, ◌⊎◌}
use Rattle.image_layout.specs.Bucket.{lock_place, mark_place, rest_place, KeepsRecords}
use Rattle.image_layout.specs.Places.{Shape, bucket_at, buckets}
use Rattle.sound_image.specs.Segments.{ImageWords}

module _ (shape : Shape) where
  -- word i is the lock word of a bucket, or has an overflow part: word 0 of the bucket, or word 1 or 3
  pub record IsLockOrOverflow (i : ℕ) : Type 0 where
    pub s : ℕ
    pub b : ℕ
    pub part : ℕ
    pub segment : s < shape.segments
    pub bucket : b < buckets
    pub which : (part ≡ lock_place) ⊎ (part ≡ mark_place) ⊎ (part ≡ rest_place)
    pub place : i ≡ bucket_at shape s b + part

  -- every other word is the same; of word 1 of a bucket the bits that say which slots are allocated and which records
  -- stand in their probing bucket, and of word 3 the fingerprints of slots 8 to 13
  pub record AgreeButForLocksAndOverflow (word other : ImageWords) : Type 0 where
    pub elsewhere : (i : ℕ) → (IsLockOrOverflow i → ⊥) → word i ≡ other i
    pub records : (s b : ℕ) → s < shape.segments → b < buckets
        → KeepsRecords (other (bucket_at shape s b + mark_place)) (other (bucket_at shape s b + rest_place)) (word (bucket_at shape s b + mark_place)) (word (bucket_at shape s b + rest_place))
