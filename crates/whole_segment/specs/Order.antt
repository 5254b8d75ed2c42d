-- The order in which a key is looked for in a segment: its home, its probing bucket, and the two stash buckets, slots ascending. So
-- there are as many positions as slots in which a key may stand.
use Rattle.std.specs.Prelude.{◌≡◌, ℕ, zero, suc, ◌+◌, ◌*◌, ◌/◌, ◌%◌, ◌<◌, Bool, false, ◌==◌, ◌&&◌, ◌||◌, if◌then◌else◌}
use Rattle.hash_word.specs.Hash.{home_of}
use Rattle.bucket_meta.specs.Bucket.{allocated, record_slots}
use Rattle.bucket_meta.specs.Search.{is_taken}
use Rattle.image_layout.specs.Places.{slots_of_key}
use Rattle.image_layout.specs.Standing.{looked_at}

-- the bucket of a position, for a key of this home
abbrev pub bucket_in_order : ℕ → ℕ → ℕ
bucket_in_order home p = looked_at home (p / record_slots)

-- its slot
abbrev pub slot_at : ℕ → ℕ
slot_at p = p % record_slots

-- the position of slot r of bucket b, which is behind all others where no key of this home is looked for
abbrev pub position_of : ℕ → ℕ → ℕ → ℕ
position_of home b r =
    if b == looked_at home 0 then r else if b == looked_at home 1 then record_slots + r else if b == looked_at home 2 then 2 * record_slots + r else if b == looked_at home 3 then 3 * record_slots + r else slots_of_key

module _ (key : ℕ → ℕ → ℕ) (hash : ℕ → ℕ) where
  -- where the key in slot r of bucket b is at home
  abbrev pub own_home : ℕ → ℕ → ℕ
  own_home b r = home_of (hash (key b r))

  -- its position
  abbrev pub own_position : ℕ → ℕ → ℕ
  own_position b r = position_of (own_home b r) b r

module _ (first : ℕ → ℕ) (key : ℕ → ℕ → ℕ) where
  -- a record of key k stands at position p of this home
  pub record IsAt (home k p : ℕ) : Type 0 where
    pub taken : allocated (slot_at p) (first (bucket_in_order home p)) ≡ 1
    pub has_key : key (bucket_in_order home p) (slot_at p) ≡ k

  -- THE KEY STANDS BEFORE: at a position before that of slot r of bucket b
  pub record StandsBefore (hash : ℕ → ℕ) (b r : ℕ) : Type 0 where
    pub position : ℕ
    pub before : position < own_position key hash b r
    pub is_at : IsAt (own_home key hash b r) (key b r) position

  -- ---- the same as tests
  abbrev pub is_at : ℕ → ℕ → ℕ → Bool
  is_at home k p = is_taken (first (bucket_in_order home p)) (slot_at p) && (key (bucket_in_order home p) (slot_at p) == k)

  -- some position below n has the key
  unfoldable pub is_below : ℕ → ℕ → ℕ → Bool
  is_below home k zero = false
  is_below home k (suc n) = is_at home k n || is_below home k n

  abbrev pub stands_before : (hash : ℕ → ℕ) → ℕ → ℕ → Bool
  stands_before hash b r = is_below (own_home key hash b r) (key b r) (own_position key hash b r)
