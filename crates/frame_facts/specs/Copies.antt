-- When a side has the records of the 1-side of its segment: as keys and values, and slot by slot as a split copies them.
use Rattle.std.specs.Prelude.{◌≡◌, ◌≢◌, ◌↔◌, ℕ, ◌+◌, ◌<◌}
use Rattle.trace.specs.Events.{Words}
use Rattle.image_layout.specs.Bucket.{mark_place, member, record_slots}
use Rattle.image_layout.specs.Places.{Shape, block, buckets, bucket_at}
use Rattle.bucket_words.specs.Segments.{frame_of, InOneSide}
use Rattle.bucket_words.specs.Records.{key_hash}
use Rattle.bucket_words.specs.Pairs.{IsCopied}
use Rattle.bucket_words.specs.Buckets.{IsTaken, key_in, value_in, finger_in}
use Rattle.bucket_words.specs.Hits.{Hit}
use Rattle.bucket_words.specs.Standing.{IsRight}

module _ (shape : Shape) where
  -- a word of no bucket: all words of the frame are such
  abbrev pub IsNoBucketWord : ℕ → Type 0
  IsNoBucketWord i = (s b n : ℕ) → s < shape.segments → b < buckets → n < block → bucket_at shape s b + n ≢ i

  module _ (word : Words) where
    -- WHAT A SIDE MUST HAVE when it goes live: the records of the 1-side of s and no others of these hashes, each where it is
    -- looked for
    pub record HasCopies (s n : ℕ) : Type 0 where
      pub records : IsCopied shape word s n
      pub right : (b r k : ℕ) → Hit shape word n b r k → InOneSide (frame_of shape word) s (key_hash shape k) → IsRight shape word n b r k

    -- a record slot of one bucket has what that of another has
    pub record HasRecordOf (at from r : ℕ) : Type 0 where
      pub key : key_in word at r ≡ key_in word from r
      pub value : value_in word at r ≡ value_in word from r
      pub membership : member r (word (at + mark_place)) ≡ member r (word (from + mark_place))
      pub fingerprint : finger_in word at r ≡ finger_in word from r

    -- record slot r of bucket b of segment s is taken by a record of the 1-side of s
    pub record IsRecordOfOneSide (s b r : ℕ) : Type 0 where
      pub taken : IsTaken word (bucket_at shape s b) r
      pub inside : InOneSide (frame_of shape word) s (key_hash shape (key_in word (bucket_at shape s b) r))

    -- SLOT BY SLOT: in n those slots are taken whose records in s are of the 1-side, by the same records
    pub record IsSlotCopy (s n : ℕ) : Type 0 where
      pub taken : (b r : ℕ) → b < buckets → r < record_slots → IsTaken word (bucket_at shape n b) r ↔ IsRecordOfOneSide s b r
      pub same : (b r : ℕ) → b < buckets → r < record_slots → IsTaken word (bucket_at shape n b) r → HasRecordOf (bucket_at shape n b) (bucket_at shape s b) r
