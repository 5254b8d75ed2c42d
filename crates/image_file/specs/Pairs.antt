-- What a sound image holds: its live segments and its pairs, as lists.
use Rattle.std.specs.Prelude.{◌≡◌, ℕ, ◌<◌, ◌==◌, ◌↔◌, List, map, filter, Contains}
use Rattle.std.specs.List.{IsDistinct}
use Rattle.segment_head.specs.HeadWord.{is_live}
use Rattle.bucket_meta.specs.Notes.{numbers_below}
use Rattle.image_layout.specs.Places.{Shape}
use Rattle.sound_image.specs.Segments.{ImageWords, Frame}
use Rattle.sound_image.specs.Records.{HasPair}
use Rattle.image_rules.specs.Own.{IsOwnAt, pair_at}

-- the slots below a limit that hold a live segment
abbrev pub live_slots : Frame → ℕ → List ℕ
live_slots frame limit = filter (λ s. is_live (frame.header s)) (numbers_below limit)

-- the keys of pairs
abbrev pub keys_of : List (ℕ × ℕ) → List ℕ
keys_of pairs = map (λ (pair : ℕ × ℕ). pair.0) pairs

module _ (shape : Shape) (word : ImageWords) where
  -- a list of the image's pairs: it has exactly these, and no key twice
  pub record ArePairs (pairs : List (ℕ × ℕ)) : Type 0 where
    pub each : (k v : ℕ) → HasPair shape word k v ↔ Contains pairs (k, v)
    pub once : IsDistinct (λ a b. a == b) (keys_of pairs)

  -- an own record in a slot below a limit has this pair
  pub record HasPairBelow (limit : ℕ) (pair : ℕ × ℕ) : Type 0 where
    pub n : ℕ
    pub below : n < limit
    pub own : IsOwnAt shape word n
    pub is : pair_at shape word n ≡ pair

  -- a list of the pairs of the own records in slots below a limit
  pub record ArePairsBelow (limit : ℕ) (pairs : List (ℕ × ℕ)) : Type 0 where
    pub each : (n : ℕ) → n < limit → IsOwnAt shape word n → Contains pairs (pair_at shape word n)
    pub others : (pair : ℕ × ℕ) → Contains pairs pair → HasPairBelow limit pair
    pub once : IsDistinct (λ a b. a == b) (keys_of pairs)
