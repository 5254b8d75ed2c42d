-- Which segment owns a hash, and where a key's home bucket begins, by the words.
use Rattle.std.specs.Prelude.{◌≡◌, ℕ, ◌+◌, ◌<◌, Option, ◌⊎◌}
use Rattle.std.specs.Option.{unwrap_or}
use Rattle.hash_word.specs.Hash.{home_of}
use Rattle.trace.specs.Events.{Words}
use Rattle.image_layout.specs.Places.{Shape, block, first_segment, head_at, bucket_at}
use Rattle.segment_table.specs.Segments.{frame_of}
use Rattle.segment_table.specs.Records.{key_hash}
use Rattle.segment_table.specs.Owner.{owner}

-- the structure: the words before the first segment, and those of each header
abbrev pub IsStructure : Shape → ℕ → Type 0
IsStructure shape i = (i < first_segment shape) ⊎ ((s : ℕ) × (w : ℕ) × (s < shape.segments) × (w < block) × (i ≡ head_at shape s + w))

-- words have the structure that others have, which are the front where that is fixed
abbrev pub HasStructure : Shape → Words → Words → Type 0
HasStructure shape front word = (i : ℕ) → IsStructure shape i → word i ≡ front i

module _ (shape : Shape) (word : Words) where
  -- the segment that owns a hash: the deepest live one that covers it
  abbrev pub owner_of : ℕ → Option ℕ
  owner_of h = owner (frame_of shape word) h

  -- where a key's home bucket begins, in the segment that owns its hash
  abbrev pub home_at : ℕ → ℕ
  home_at k = bucket_at shape (unwrap_or (owner_of (key_hash shape k)) 0) (home_of (key_hash shape k))

-- each hash has the owner that it had
abbrev pub SameOwners : Shape → Words → Words → Type 0
SameOwners shape word other = (h : ℕ) → owner_of shape other h ≡ owner_of shape word h
