-- What is stored of a slot that is taken or freed: the metadata word, and the word of its fingerprint; and what each of them leaves. And the
-- metadata word with a set of slots, whose bit s is of slot s, alone or without it.
use Rattle.std.specs.Prelude.{◌≡◌, ◌≢◌, ℕ, ◌+◌, ◌*◌, ◌/◌, ◌%◌, ◌^◌, ◌<◌, nat_lt, slice_set, if◌then◌else◌, bit_or, bit_and}
use Rattle.std.specs.Int.{bit_not, w64, to_le_bytes, from_le_bytes}
use Rattle.word_bits.specs.Bits.{mask}
use Rattle.bucket_meta.specs.Bucket.{allocated, member, finger, note_used, overflow_count, record_slots, note_slots, member_from, marks_bits, fingers_of_word, fingers_place, rest_place}

-- the metadata word where the slot has a record that is at home: its allocation bit set, its membership bit not
abbrev pub inserted_mark : ℕ → ℕ → ℕ
inserted_mark w1 slot = bit_and (bit_or w1 (mask slot)) (bit_not w64 (mask (member_from + slot)))

-- the metadata word where the slot has a record that stands in its probing bucket: both bits set
abbrev pub member_mark : ℕ → ℕ → ℕ
member_mark w1 slot = bit_or (bit_or w1 (mask slot)) (mask (member_from + slot))

-- the metadata word where the slot has no record: both bits not set
abbrev pub removed_mark : ℕ → ℕ → ℕ
removed_mark w1 slot = bit_and (bit_and w1 (bit_not w64 (mask slot))) (bit_not w64 (mask (member_from + slot)))

-- the allocation bits and the membership bits of a set of slots, where a metadata word has them
abbrev pub slot_bits : ℕ → ℕ
slot_bits slots = slots + 2 ^ member_from * slots

-- the metadata word with these slots alone: no other slot is taken, and no overflow part is there
abbrev pub copied_mark : ℕ → ℕ → ℕ
copied_mark w1 slots = bit_and w1 (slot_bits slots)

-- the metadata word with these slots free
abbrev pub cleared_mark : ℕ → ℕ → ℕ
cleared_mark w1 slots = bit_and w1 (bit_not w64 (slot_bits slots))

-- fingerprints 0 to 7 stand in word 2, the others in word 3
abbrev pub finger_place : ℕ → ℕ
finger_place slot = if nat_lt slot fingers_of_word then fingers_place else rest_place

-- a word of fingerprints, a byte each, with the slot's changed
abbrev pub with_finger : ℕ → ℕ → ℕ → ℕ
with_finger word slot number = from_le_bytes w64 (slice_set (to_le_bytes w64 word) (slot % fingers_of_word) number)

-- metadata word x says of every slot but r what w says
pub record SameButSlot (r w x : ℕ) : Type 0 where
  pub taken : (t : ℕ) → t < record_slots → t ≢ r → allocated t x ≡ allocated t w
  pub members : (t : ℕ) → t < record_slots → t ≢ r → member t x ≡ member t w

-- metadata word x says of the stash what w1 says: which note slots hold a note, and how many records have none
pub record SameNotes (w1 x : ℕ) : Type 0 where
  pub notes : (i : ℕ) → i < note_slots → note_used i x ≡ note_used i w1
  pub count : overflow_count x ≡ overflow_count w1

-- an insert's metadata word has its slot taken by a record that is at home, and says of the others what was said before
pub record TakesSlot (w1 slot : ℕ) : Type 0 where
  pub taken : allocated slot (inserted_mark w1 slot) ≡ 1
  pub at_home : member slot (inserted_mark w1 slot) ≡ 0
  pub others : SameButSlot slot w1 (inserted_mark w1 slot)

-- where a record comes to its probing bucket, the metadata word has its slot taken by a member
pub record TakesSlotAsMember (w1 slot : ℕ) : Type 0 where
  pub taken : allocated slot (member_mark w1 slot) ≡ 1
  pub is_member : member slot (member_mark w1 slot) ≡ 1
  pub others : SameButSlot slot w1 (member_mark w1 slot)

-- a remove's metadata word has its slot free, and says of the others what was said before
pub record FreesSlot (w1 slot : ℕ) : Type 0 where
  pub is_free : allocated slot (removed_mark w1 slot) ≡ 0
  pub no_member : member slot (removed_mark w1 slot) ≡ 0
  pub others : SameButSlot slot w1 (removed_mark w1 slot)

-- a metadata word says the same above the slots' bits, where the overflow notes are
abbrev pub KeepsUpper : ℕ → ℕ → Type 0
KeepsUpper w1 x = x / 2 ^ marks_bits ≡ w1 / 2 ^ marks_bits

-- words of fingerprints x2 and x3 have the slot's fingerprint, and those of the others as words w2 and w3
pub record SetsFinger (w2 w3 x2 x3 slot f : ℕ) : Type 0 where
  pub here : finger slot x2 x3 ≡ f
  pub others : (t : ℕ) → t < record_slots → t ≢ slot → finger t x2 x3 ≡ finger t w2 w3
