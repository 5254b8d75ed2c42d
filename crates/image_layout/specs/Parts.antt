-- The words of an image by what they are for, and that no two parts share a word.
use Rattle.std.specs.Prelude.{◌≡◌, ℕ, ◌+◌, ◌<◌, ◌≤◌}
use Rattle.bucket_meta.specs.Bucket.{record_slots, first_key}
use Rattle.image_layout.specs.Places.{Shape, block, buckets, entries_of, entry_at, head_at, bucket_at, key_at, value_at, words_of}

-- what a word of an image is for
pub data Part : Type 0 where
  -- word w of the 32 in front, about the whole
  front : (w : ℕ) → Part
  -- entry i of the directory area of depth e
  entry : (e i : ℕ) → Part
  -- word w of the 32 of the header of segment s
  head : (s w : ℕ) → Part
  -- word w of the four before the records of bucket b of segment s
  meta : (s b w : ℕ) → Part
  -- the key of record slot r
  key : (s b r : ℕ) → Part
  -- the value of record slot r
  value : (s b r : ℕ) → Part

-- an image of this shape has the part
abbrev pub HasPart : Shape → Part → Type 0
HasPart shape (front w) = w < block
HasPart shape (entry e i) = (e ≤ shape.depth) × (i < entries_of e)
HasPart shape (head s w) = (s < shape.segments) × (w < block)
HasPart shape (meta s b w) = (s < shape.segments) × (b < buckets) × (w < first_key)
HasPart shape (key s b r) = (s < shape.segments) × (b < buckets) × (r < record_slots)
HasPart shape (value s b r) = (s < shape.segments) × (b < buckets) × (r < record_slots)

-- the word number of a part
abbrev pub word_of : Shape → Part → ℕ
word_of shape (front w) = w
word_of shape (entry e i) = entry_at e i
word_of shape (head s w) = head_at shape s + w
word_of shape (meta s b w) = bucket_at shape s b + w
word_of shape (key s b r) = key_at shape s b r
word_of shape (value s b r) = value_at shape s b r

-- each part of an image lies within its words
abbrev pub PartsWithin : Type 0
PartsWithin = (shape : Shape) (p : Part) → HasPart shape p → word_of shape p < words_of shape

-- parts of an image with the same word number are the same part
abbrev pub PartsApart : Type 0
PartsApart = (shape : Shape) (p q : Part) → HasPart shape p → HasPart shape q → word_of shape p ≡ word_of shape q → p ≡ q
