-- Sets of record slots, as numbers whose bit s is of slot s, which records stand in their probing bucket, and what a change of a slot leaves.
use Rattle.std.specs.Prelude.{◌≡◌, ◌≢◌, ℕ, ◌<◌}
use Rattle.bucket_meta.specs.declared.metadata.Meta.{Meta}
use Rattle.word_bits.specs.Bits.{bit}
use Rattle.bucket_meta.specs.Bucket.{record_slots, allocated, member}

-- each record slot is in the set
abbrev pub IsFull : ℕ → Type 0
IsFull slots = (s : ℕ) → s < record_slots → bit s slots ≡ 1

-- each record of a bucket stands there as in its probing bucket, by its metadata word
abbrev pub HasOnlyMembers : ℕ → Type 0
HasOnlyMembers w1 = (slot : ℕ) → slot < record_slots → allocated slot w1 ≡ 1 → member slot w1 ≡ 1

-- none of them does
abbrev pub HasNoMembers : ℕ → Type 0
HasNoMembers w1 = (slot : ℕ) → slot < record_slots → allocated slot w1 ≡ 1 → member slot w1 ≡ 0

-- each slot but this one is in the new set if it is in the old one
abbrev pub SameElsewhere : ℕ → ℕ → ℕ → Type 0
SameElsewhere old new slot = (s : ℕ) → s ≢ slot → bit s new ≡ bit s old

-- all that is said of the stash is as it was
pub record SameOverflow (old new : Meta) : Type 0 where
  pub used : new.used ≡ old.used
  pub omember : new.omember ≡ old.omember
  pub oindex : new.oindex ≡ old.oindex
  pub ocount : new.ocount ≡ old.ocount
  pub ofps : new.ofps ≡ old.ofps
