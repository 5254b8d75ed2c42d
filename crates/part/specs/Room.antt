-- Where no record can be moved to make room for another, by the first metadata words of four buckets; and where there is no room in a segment.
use Rattle.std.specs.Prelude.{◌≡◌, ℕ, ◌+◌, true, ◌⊎◌}
use Rattle.hash_word.specs.Hash.{home_of, probing_of, next_of, previous_of}
use Rattle.trace.specs.Events.{Words}
use Rattle.image_layout.specs.Places.{Shape, header_word, bucket_at, homes, second_stash}
use Rattle.way.specs.Ways.{is_leading}
use Rattle.bucket_meta.specs.Bucket.{mark_place}
use Rattle.bucket_meta.specs.Slots.{IsFull, HasOnlyMembers, HasNoMembers}

-- no record of the probing bucket is at home there, or the next bucket, to which it might move on, is full
abbrev pub NothingMovesOn : ℕ → ℕ → Type 0
NothingMovesOn probing next = HasOnlyMembers probing ⊎ IsFull next

-- none of the home bucket is of the home before, or the previous bucket, to which it might move back, is full
abbrev pub NothingMovesBack : ℕ → ℕ → Type 0
NothingMovesBack home previous = HasNoMembers home ⊎ IsFull previous

-- NOTHING CAN BE MOVED, on or back
pub record NothingMoves (home probing next previous : ℕ) : Type 0 where
  pub forward : NothingMovesOn probing next
  pub backward : NothingMovesBack home previous

-- ---- in the newest words
module _ (shape : Shape) (words : Words) (segment : ℕ) where
  -- the first metadata word of a bucket
  abbrev pub meta_now : ℕ → ℕ
  meta_now b = words (bucket_at shape segment b + mark_place)

  -- THERE IS NO ROOM in a segment for a key of this hash: its header leads to the hash, home and probing bucket and both stash buckets are
  -- full, and nothing can be moved
  pub record HasNoRoom (hash : ℕ) : Type 0 where
    pub leads : is_leading (words (header_word shape segment)) hash ≡ true
    pub home_full : IsFull (meta_now (home_of hash))
    pub probing_full : IsFull (meta_now (probing_of (home_of hash)))
    pub moves : NothingMoves (meta_now (home_of hash)) (meta_now (probing_of (home_of hash))) (meta_now (next_of (home_of hash))) (meta_now (previous_of (home_of hash)))
    pub first_full : IsFull (meta_now homes)
    pub second_full : IsFull (meta_now second_stash)
