-- In which bucket of a segment a record of a key may stand, and what its homes have in the stash.
use Rattle.std.specs.Prelude.{◌≡◌, ℕ, zero, suc, ◌≤◌, ◌==◌, ◌&&◌, ◌⊎◌, List, [], ◌∷◌, ◌++◌, if◌then◌else◌}
use Rattle.std.specs.List.{flat_map}
use Rattle.hash_word.specs.Hash.{home_of, finger_of, probing_of}
use Rattle.bucket_meta.specs.Bucket.{allocated, overflow_count, record_slots, home_side, probing_side, first_stash_index, second_stash_index}
use Rattle.bucket_meta.specs.Notes.{OverflowNote, numbers_below, notes_by, AreExact}
use Rattle.image_layout.specs.Places.{Shape, homes, stash_bucket, second_stash}
use Rattle.image_layout.specs.Keys.{key_hash}

-- THE BUCKETS OF A KEY of this home, in the order in which it is looked for: home, probing bucket, first and second stash bucket,
-- which is also what any greater number gives
abbrev pub looked_at : (home n : ℕ) → ℕ
looked_at home zero = home
looked_at home (suc zero) = probing_of home
looked_at home (suc (suc zero)) = homes
looked_at home (suc (suc (suc n))) = second_stash

-- a record of key k with this membership bit may stand in bucket b: in its home without the bit, in its probing bucket with
-- it, or in the stash
abbrev pub StandsAt : Shape → ℕ → ℕ → ℕ → Type 0
StandsAt shape b k bit =
    ((b ≡ home_of (key_hash shape k)) × (bit ≡ 0)) ⊎ ((b ≡ probing_of (home_of (key_hash shape k))) × (bit ≡ 1)) ⊎ (homes ≤ b)

-- what a slot of stash bucket c gives home b, by its allocation bit and the hash of its key: its record, or nothing
abbrev pub stash_piece : (b c bit hash : ℕ) → List OverflowNote
stash_piece b c bit hash = if (bit == 1) && (home_of hash == b) then (finger_of hash, c) ∷ [] else []

-- of one segment, by the metadata word of each bucket, the key in each record slot, and the hash of each key
module _ (first : ℕ → ℕ) (key : ℕ → ℕ → ℕ) (hash : ℕ → ℕ) where
  -- the records of home b in stash bucket c, and in both
  abbrev pub stashed_in : ℕ → ℕ → List OverflowNote
  stashed_in b c = flat_map (λ r. stash_piece b c (allocated r (first (stash_bucket c))) (hash (key (stash_bucket c) r))) (numbers_below record_slots)

  abbrev pub stashed_of : ℕ → List OverflowNote
  stashed_of b = stashed_in b first_stash_index ++ stashed_in b second_stash_index

-- and by words 1 and 3 of each bucket
module _ (first third : ℕ → ℕ) where
  -- the notes of home b: those in its own bucket, and those in its probing bucket
  abbrev pub notes_of : ℕ → List OverflowNote
  notes_of b = notes_by (first b) (third b) home_side ++ notes_by (first (probing_of b)) (third (probing_of b)) probing_side

  -- they and the count of the home are exact for records that stand in the stash
  abbrev pub HasExactNotes : ℕ → List OverflowNote → Type 0
  HasExactNotes b stashed = AreExact (notes_of b) (overflow_count (first b)) stashed
