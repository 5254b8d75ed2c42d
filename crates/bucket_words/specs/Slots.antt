-- A record slot before and after a store.
use Rattle.std.specs.Prelude.{◌≡◌, ℕ, ◌+◌, ◌<◌}
use Rattle.bucket_meta.specs.Bucket.{mark_place, allocated, member, record_slots}
use Rattle.trace.specs.Events.{Words}
use Rattle.bucket_words.specs.Buckets.{IsTaken, key_in, value_in, finger_in}

module _ (word other : Words) (at : ℕ) where
  -- slot t of the bucket is taken in both or in none, and if it is, then by the same record
  pub record SameSlot (t : ℕ) : Type 0 where
    pub taken : allocated t (other (at + mark_place)) ≡ allocated t (word (at + mark_place))
    pub membership : IsTaken word at t → member t (other (at + mark_place)) ≡ member t (word (at + mark_place))
    pub key : IsTaken word at t → key_in other at t ≡ key_in word at t
    pub value : IsTaken word at t → value_in other at t ≡ value_in word at t
    pub fingerprint : IsTaken word at t → finger_in other at t ≡ finger_in word at t

  -- so it is with each slot
  abbrev pub SameSlots : Type 0
  SameSlots = (t : ℕ) → t < record_slots → SameSlot t
