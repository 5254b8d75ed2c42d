-- Which records a repair clears, and what it leaves: no record that the segment does not own, and of each key the first.
use Rattle.std.specs.Prelude.{◌≡◌, ℕ, ◌<◌, ◌⊎◌, Bool, not, ◌==◌, ◌&&◌, ◌||◌}
use Rattle.hash_word.specs.Hash.{Covers, top}
use Rattle.bucket_meta.specs.Bucket.{allocated}
use Rattle.bucket_meta.specs.Search.{is_taken}
use Rattle.bucket_meta.specs.Marks.{cleared_mark}
use Rattle.image_layout.specs.Places.{buckets, slots_of_key}
use Rattle.whole_segment.specs.Slots.{IsSetOf, set_of}
use Rattle.whole_segment.specs.Records.{Stands}
use Rattle.whole_segment.specs.Order.{StandsBefore, stands_before, own_position}

module _ (first : ℕ → ℕ) (key : ℕ → ℕ → ℕ) (hash : ℕ → ℕ) (depth pattern : ℕ) where
  -- slot r of bucket b is to be cleared: its record is of another segment, or its key stands before
  pub record IsSpoiled (b r : ℕ) : Type 0 where
    pub taken : allocated r (first b) ≡ 1
    pub why : (Covers depth pattern (hash (key b r)) → ⊥) ⊎ StandsBefore first key hash b r

  -- so it is, as a test, and the slots of bucket b that are to be cleared as a set
  abbrev pub is_spoiled : ℕ → ℕ → Bool
  is_spoiled b r = is_taken (first b) r && (not (top depth (hash (key b r)) == pattern) || stands_before first key hash b r)

  abbrev pub spoiled_set : ℕ → ℕ
  spoiled_set b = set_of (is_spoiled b)

  -- each record of the segment stands in a bucket where its key is looked for
  abbrev pub IsLookedFor : Type 0
  IsLookedFor = (b r k : ℕ) → Stands first key b r k → Covers depth pattern (hash k) → own_position key hash b r < slots_of_key

  -- each bucket's spoiled slots, as sets
  abbrev pub AreSpoiled : (ℕ → ℕ) → Type 0
  AreSpoiled spoiled = (b : ℕ) → b < buckets → IsSetOf (IsSpoiled b) (spoiled b)

-- A MENDED SEGMENT, of which word 1 of each bucket was such: its records stood there and are its own, each of its own records that
-- stood first stands still, each of its own keys that stood stands still, and each key stands once
pub record IsMended (first mended : ℕ → ℕ) (key : ℕ → ℕ → ℕ) (hash : ℕ → ℕ) (depth pattern : ℕ) : Type 0 where
  pub own : (b r k : ℕ) → Stands mended key b r k → Stands first key b r k × Covers depth pattern (hash k)
  pub first_stays : (b r k : ℕ) → Stands first key b r k → Covers depth pattern (hash k) → (StandsBefore first key hash b r → ⊥) → Stands mended key b r k
  pub keys_stay : (b r k : ℕ) → Stands first key b r k → Covers depth pattern (hash k) → (c : ℕ) × (t : ℕ) × Stands mended key c t k
  pub once : IsLookedFor first key hash depth pattern → (b r c t k : ℕ) → Stands mended key b r k → Stands mended key c t k → (c ≡ b) × (t ≡ r)

-- word 1 of a bucket with its spoiled slots cleared
abbrev pub without_spoiled : (first spoiled : ℕ → ℕ) → ℕ → ℕ
without_spoiled first spoiled b = cleared_mark (first b) (spoiled b)
