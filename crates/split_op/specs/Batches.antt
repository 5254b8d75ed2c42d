-- WHAT A SPLIT STORES, one store after another: to empty a slot, to link it, the two headers, and the copies.
use Rattle.std.specs.Prelude.{ℕ, zero, suc, ◌+◌, ◌-◌, ◌%◌, ◌^◌, nat_lt, ◌==◌, ◌&&◌, ◌||◌, not, Bool, true, false, Option, None, Some, List, slice_index, if◌then◌else◌}
use Rattle.bucket_meta.specs.Bucket.{lock_place, mark_place, rest_place, first_key, lock_bit, without_lock, slot_of_place}
use Rattle.bucket_meta.specs.Search.{is_taken}
use Rattle.segment_head.specs.HeadWord.{link_to}
use Rattle.image_layout.specs.Places.{segment_words, buckets, place_in_bucket, header_words, header_number, link_number, bucket_place, bucket_of, bucket_behind, among_buckets, mark_among_buckets}
use Rattle.way.specs.Ways.{slot_word}
use Rattle.split_op.specs.declared.batch.Batch.{Batch}
use Rattle.split_op.specs.declared.batch.Batch.TheVariants.{Empty, Link, Mark, New, Copy}
use Rattle.split_op.specs.declared.copied.Copied.{Copied}
use Rattle.split_op.specs.Copied.{split_head, side_head}

-- ---- a slot is emptied
-- what a word is emptied to: a lock word to the free value of its version, and another to 0
abbrev pub empty_value : List ℕ → ℕ → ℕ
empty_value locks number = if nat_lt number header_words || nat_lt lock_place (place_in_bucket number) then 0 else without_lock (slice_index locks (bucket_of number))

-- the first word of a bucket that is emptied: its lock word where that is not free
abbrev pub first_of : List ℕ → ℕ → ℕ
first_of locks bucket = if nat_lt bucket buckets then (if lock_bit (slice_index locks bucket) == 0 then bucket_place bucket + mark_place else bucket_place bucket) else segment_words

-- the word that is emptied after one
abbrev pub after_empty : List ℕ → ℕ → ℕ
after_empty locks number = if not (nat_lt number header_words) && nat_lt (place_in_bucket number) rest_place then number + 1 else first_of locks (bucket_behind number)

-- ---- records are copied
-- word m of a bucket of the side is copied, by the word itself and the first metadata word of the bucket
abbrev pub is_copied_at : ℕ → ℕ → ℕ → Bool
is_copied_at m word mark = if m == lock_place then false else if nat_lt m first_key then not (word == 0) else is_taken mark (slot_of_place m)

-- a word of the side is copied, by its number
abbrev pub is_copied : List ℕ → ℕ → Bool
is_copied words number = is_copied_at (place_in_bucket number) (slice_index words (among_buckets number)) (slice_index words (mark_among_buckets number))

-- the first one of n from a number on
unfoldable pub seek : List ℕ → ℕ → ℕ → ℕ
seek words number zero = segment_words
seek words number (suc n) = if is_copied words number then number else seek words (number + 1) n

abbrev pub copied_from : List ℕ → ℕ → ℕ
copied_from words number = seek words number (segment_words - number)

-- ---- the stores
module _ (c : Copied) (locks : List ℕ) where
  -- THE STORE that is to come: its word and its value
  abbrev pub due : Batch → Option (ℕ × ℕ)
  due (Empty number) = if nat_lt number segment_words then Some (slot_word c.whole.site.geometry c.side number, empty_value locks number) else None
  due (Link false) = Some (slot_word c.whole.site.geometry c.whole.segment link_number, link_to c.side % 2 ^ 64)
  due (Mark false) = Some (slot_word c.whole.site.geometry c.whole.segment header_number, split_head c.whole)
  due (New false) = Some (slot_word c.whole.site.geometry c.side header_number, side_head c.whole)
  due (Copy number) = if nat_lt number segment_words then Some (slot_word c.whole.site.geometry c.side number, slice_index c.words (among_buckets number)) else None
  due done = None

  -- WHAT IS TO COME after it
  abbrev pub after : Batch → Batch
  after (Empty number) = if nat_lt number segment_words then Empty (after_empty locks number) else Empty number
  after (Link stored) = Link true
  after (Mark stored) = Mark true
  after (New stored) = New true
  after (Copy number) = if nat_lt number segment_words then Copy (copied_from c.words (number + 1)) else Copy number
