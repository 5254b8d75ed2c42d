-- The records in the stash of a segment, by word 1 of each bucket and the key in each record slot.
use Rattle.std.specs.Prelude.{ℕ, List, [], ◌∷◌, ◌++◌, if◌then◌else◌}
use Rattle.std.specs.List.{flat_map}
use Rattle.hash_word.specs.Hash.{home_of, finger_of}
use Rattle.bucket_meta.specs.Bucket.{record_slots, first_stash_index, second_stash_index}
use Rattle.bucket_meta.specs.Search.{is_taken}
use Rattle.bucket_meta.specs.Notes.{numbers_below}
use Rattle.image_layout.specs.Places.{stash_bucket}
use Rattle.stash.specs.Segment.{Stashed}

-- the record in slot r of stash bucket c, as its home, its fingerprint and its stash bucket
abbrev pub entry_of : (key : ℕ → ℕ → ℕ) (hash : ℕ → ℕ) → ℕ → ℕ → Stashed
entry_of key hash c r = (home_of (hash (key (stash_bucket c) r)), finger_of (hash (key (stash_bucket c) r)), c)

module _ (first : ℕ → ℕ) (key : ℕ → ℕ → ℕ) (hash : ℕ → ℕ) where
  -- the records in slots below n of stash bucket c
  abbrev pub entries_below : ℕ → ℕ → List Stashed
  entries_below c n = flat_map (λ r. if is_taken (first (stash_bucket c)) r then entry_of key hash c r ∷ [] else []) (numbers_below n)

  -- all records in the stash, by stash bucket, then slot
  abbrev pub stash_entries : List Stashed
  stash_entries = entries_below first_stash_index record_slots ++ entries_below second_stash_index record_slots
