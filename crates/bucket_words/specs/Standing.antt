-- A table by its records: each stands where it is looked for, and a key that stands twice has one value. And a segment by itself: whether its
-- locks are free, each of its keys stands once, and its notes are exact.
use Rattle.std.specs.Prelude.{◌≡◌, ℕ, ◌+◌, ◌<◌, Some}
use Rattle.hash_word.specs.Hash.{finger_of}
use Rattle.bucket_meta.specs.Bucket.{lock_bit, mark_place, member}
use Rattle.trace.specs.Events.{Words}
use Rattle.image_layout.specs.Places.{Shape, bucket_at, homes, buckets}
use Rattle.image_layout.specs.Standing.{StandsAt}
use Rattle.segment_table.specs.Records.{key_hash, HasExactNotes}
use Rattle.bucket_words.specs.Buckets.{value_in, finger_in}
use Rattle.bucket_words.specs.Owners.{owner_of}
use Rattle.bucket_words.specs.Hits.{Hit}

module _ (shape : Shape) (word : Words) where
  -- slot r of bucket b of segment s is one where a record of key k may stand, and has its fingerprint
  pub record IsRight (s b r k : ℕ) : Type 0 where
    pub bucket : StandsAt shape b k (member r (word (bucket_at shape s b + mark_place)))
    pub fingerprint : finger_in word (bucket_at shape s b) r ≡ finger_of (key_hash shape k)

  -- ---- one segment
  -- no lock of it is taken
  abbrev pub LocksAreFree : ℕ → Type 0
  LocksAreFree s = (b : ℕ) → b < buckets → lock_bit (word (bucket_at shape s b)) ≡ 0

  -- each key stands once there
  abbrev pub KeysStandOnce : ℕ → Type 0
  KeysStandOnce s = (b r c t k : ℕ) → Hit shape word s b r k → Hit shape word s c t k → (b ≡ c) × (r ≡ t)

  -- the notes of each home are exact
  abbrev pub NotesAreExact : ℕ → Type 0
  NotesAreExact s = (b : ℕ) → b < homes → HasExactNotes shape word s b

  -- ---- all of them
  -- A TABLE: in the segment that owns its key's hash each record stands right, and two records of one key have one value.
  -- Of records in other segments nothing is said
  pub record IsTable : Type 0 where
    pub stands : (s b r k : ℕ) → Hit shape word s b r k → owner_of shape word (key_hash shape k) ≡ Some s → IsRight s b r k
    pub one_value : (s b r c t k : ℕ) → Hit shape word s b r k → Hit shape word s c t k → owner_of shape word (key_hash shape k) ≡ Some s
        → value_in word (bucket_at shape s b) r ≡ value_in word (bucket_at shape s c) t
