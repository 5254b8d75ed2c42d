-- The words of the buckets of a segment, by their numbers: word n of bucket b is number 32 * b + n. And what a mending makes of them, in its
-- three stages: of a split that ends the records of the 1-side leave, then locks are free and spoiled records leave, and then notes are exact.
use Rattle.std.specs.Prelude.{ℕ, min, ◌==◌, ◌&&◌, nat_lt, List, slice_index, if◌then◌else◌}
use Rattle.bucket_meta.specs.Bucket.{lock_place, mark_place, rest_place, without_lock}
use Rattle.segment_head.specs.HeadWord.{depth_in, pattern_in, header_of, normal}
use Rattle.hash_word.specs.Hash.{hash_bits}
pub use Rattle.segment_head.specs.SplitHeads.{capped_side_depth, one_pattern_field}
use Rattle.image_layout.specs.Places.{Shape, homes, bucket_among, place_in_bucket}
use Rattle.sound_image.specs.Records.{key_hash}
use Rattle.whole_segment.specs.Records.{uncovered_first}
pub use Rattle.whole_segment.specs.Records.{first_of, third_of, key_of}
use Rattle.whole_segment.specs.Mending.{spoiled_set, without_spoiled}
use Rattle.whole_segment.specs.Rebuilding.{Overflow, first_with, third_with, rebuilt}

-- ---- headers
-- the depth of the segment itself, at most 64
abbrev pub own_depth : ℕ → ℕ
own_depth head = min (depth_in head) hash_bits

-- the header when it is mended: normal, with this version
abbrev pub renewed_head : ℕ → ℕ → ℕ
renewed_head version head = header_of version normal (depth_in head) (pattern_in head)

-- what a mending makes of a lock word: it is free, with its version
abbrev pub mended_lock : ℕ → ℕ
mended_lock w = without_lock w

-- ---- words
module _ (words : List ℕ) where
  -- ---- what is made of them, by the header as it stands
  module _ (shape : Shape) (head : ℕ) where
    -- word 1 of a bucket without the records of the 1-side
    abbrev pub halved_first : ℕ → ℕ
    halved_first = uncovered_first (first_of words) (key_of words) (key_hash shape) (capped_side_depth head) (one_pattern_field head)

    -- without those that are spoiled
    abbrev pub mended_first : ℕ → ℕ
    mended_first = without_spoiled (first_of words) (spoiled_set (first_of words) (key_of words) (key_hash shape) (own_depth head) (pattern_in head))

    -- the notes of each home, made anew of the records in the stash
    abbrev pub notes_of : ℕ → Overflow
    notes_of = rebuilt (first_of words) (key_of words) (key_hash shape)

    -- the words of this number that these make
    abbrev pub halved : ℕ → ℕ
    halved i = if place_in_bucket i == mark_place then halved_first (bucket_among i) else slice_index words i

    abbrev pub mended : ℕ → ℕ
    mended i = if place_in_bucket i == lock_place then mended_lock (slice_index words i) else if place_in_bucket i == mark_place then mended_first (bucket_among i) else slice_index words i

    abbrev pub noted : ℕ → ℕ
    noted i =
        if nat_lt (bucket_among i) homes && (place_in_bucket i == mark_place) then first_with (first_of words (bucket_among i)) (notes_of (bucket_among i))
        else if nat_lt (bucket_among i) homes && (place_in_bucket i == rest_place) then third_with (third_of words (bucket_among i)) (notes_of (bucket_among i))
        else slice_index words i
