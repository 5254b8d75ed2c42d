-- What a store does to a table: nothing, or one key has another value; and what a store to one record slot is to keep.
use Rattle.std.specs.Prelude.{◌≡◌, ◌≢◌, ℕ, ◌+◌, ◌<◌, Option, Some, ◌⊎◌}
use Rattle.hash_word.specs.Hash.{finger_of}
use Rattle.bucket_meta.specs.Bucket.{mark_place, allocated, member, record_slots}
use Rattle.trace.specs.Events.{Words}
use Rattle.image_layout.specs.Places.{Shape, bucket_at, buckets}
use Rattle.segment_table.specs.Records.{key_hash}
use Rattle.bucket_words.specs.Buckets.{IsTaken, key_in, value_in, finger_in}
use Rattle.bucket_words.specs.Owners.{owner_of, SameOwners}
use Rattle.bucket_words.specs.Hits.{Hit, find}
use Rattle.bucket_words.specs.Standing.{IsRight, IsTable}
use Rattle.bucket_words.specs.Slots.{SameSlot}

module _ (shape : Shape) (word other : Words) where
  -- the other is a table with the same pairs
  pub record KeepsTable : Type 0 where
    pub table : IsTable shape other
    pub pairs : (k : ℕ) → find shape other k ≡ find shape word k

  -- the other is a table that differs in what one key has
  pub record ChangesKey (k : ℕ) (a : Option ℕ) : Type 0 where
    pub table : IsTable shape other
    pub here : find shape other k ≡ a
    pub elsewhere : (l : ℕ) → l ≢ k → find shape other l ≡ find shape word l

  -- each record of the other stood there before, or is one of key k in slot r of bucket b of segment s
  abbrev pub OnlyNewHit : ℕ → ℕ → ℕ → ℕ → Type 0
  OnlyNewHit s b r k = (q c t l : ℕ) → Hit shape other q c t l → Hit shape word q c t l ⊎ ((q ≡ s) × (c ≡ b) × (t ≡ r) × (l ≡ k))

-- a record of key k stands ready in slot r of bucket b of segment s, which is free: all but its bits
pub record IsReadyAt (shape : Shape) (word : Words) (s b r k : ℕ) : Type 0 where
  pub segment : s < shape.segments
  pub bucket : b < buckets
  pub slot : r < record_slots
  pub is_free : allocated r (word (bucket_at shape s b + mark_place)) ≡ 0
  pub has_key : key_in word (bucket_at shape s b) r ≡ k
  pub has_finger : finger_in word (bucket_at shape s b) r ≡ finger_of (key_hash shape k)

-- ONE SLOT IS ANOTHER, slot r of bucket b of segment s, and only key k takes it, before or after. A record that stands there
-- after stands right; and where s owns the key, its other records have the value of this one
pub record ChangesSlot (shape : Shape) (word other : Words) (s b r k : ℕ) : Type 0 where
  pub segment : s < shape.segments
  pub owners : SameOwners shape word other
  pub others : (q c t : ℕ) → q < shape.segments → c < buckets → t < record_slots → (q ≡ s → c ≡ b → t ≡ r → ⊥) → SameSlot word other (bucket_at shape q c) t
  pub was : IsTaken word (bucket_at shape s b) r → key_in word (bucket_at shape s b) r ≡ k
  pub placed : IsTaken other (bucket_at shape s b) r → (key_in other (bucket_at shape s b) r ≡ k) × IsRight shape other s b r k
  pub agree : owner_of shape word (key_hash shape k) ≡ Some s → IsTaken other (bucket_at shape s b) r → (c t : ℕ) → Hit shape word s c t k
      → (c ≡ b → t ≡ r → ⊥) → value_in word (bucket_at shape s c) t ≡ value_in other (bucket_at shape s b) r

-- A SLOT IS LEFT: it is free after, and was free before or taken by a record that its segment does not own
pub record IsLeft (shape : Shape) (word other : Words) (s b r : ℕ) : Type 0 where
  pub free : IsTaken other (bucket_at shape s b) r → ⊥
  pub foreign : IsTaken word (bucket_at shape s b) r → owner_of shape word (key_hash shape (key_in word (bucket_at shape s b) r)) ≡ Some s → ⊥

-- metadata word x of bucket b of segment s says of slot r what the word there says, or frees it, where its segment does not own its record
abbrev pub KeepsOrLeaves : Shape → Words → ℕ → ℕ → ℕ → ℕ → Type 0
KeepsOrLeaves shape word s b x r =
    ((allocated r x ≡ allocated r (word (bucket_at shape s b + mark_place))) × (member r x ≡ member r (word (bucket_at shape s b + mark_place))))
    ⊎ ((allocated r x ≡ 0) × (IsTaken word (bucket_at shape s b) r → owner_of shape word (key_hash shape (key_in word (bucket_at shape s b) r)) ≡ Some s → ⊥))

-- A SLOT IS VACATED: it is free after, and where its segment owned the record that took it before, the key of that has another there after
pub record IsVacated (shape : Shape) (word other : Words) (s b r : ℕ) : Type 0 where
  pub free : IsTaken other (bucket_at shape s b) r → ⊥
  pub stays : IsTaken word (bucket_at shape s b) r → owner_of shape word (key_hash shape (key_in word (bucket_at shape s b) r)) ≡ Some s
      → (c : ℕ) × (t : ℕ) × Hit shape other s c t (key_in word (bucket_at shape s b) r)

-- metadata word x of bucket b of segment s says of slot r what the word there says, or frees it, where the key of its record stands in another slot
-- too, which x leaves, or its segment does not own that
abbrev pub KeepsOrVacates : Shape → Words → ℕ → ℕ → ℕ → ℕ → Type 0
KeepsOrVacates shape word s b x r =
    ((allocated r x ≡ allocated r (word (bucket_at shape s b + mark_place))) × (member r x ≡ member r (word (bucket_at shape s b + mark_place))))
    ⊎ ((allocated r x ≡ 0) × (IsTaken word (bucket_at shape s b) r → owner_of shape word (key_hash shape (key_in word (bucket_at shape s b) r)) ≡ Some s
    → (c : ℕ) × (t : ℕ) × Hit shape word s c t (key_in word (bucket_at shape s b) r) × (c ≡ b → allocated t x ≡ 1)))
