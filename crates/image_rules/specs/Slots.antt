-- What the rules say of the record slots, slot by slot, bucket by bucket and segment by segment.
use Rattle.std.specs.Prelude.{◌≡◌, ℕ, ◌+◌, ◌<◌, ◌≤◌}
use Rattle.bucket_meta.specs.Bucket.{lock_place, mark_place, lock_bit, allocated, record_slots}
use Rattle.image_layout.specs.Places.{Shape, bucket_at, key_at, homes, buckets, block}
use Rattle.sound_image.specs.Segments.{ImageWords, frame_of, Owns}
use Rattle.sound_image.specs.Records.{word_in, slot_key, slot_value, slot_hash, HasRecord, HasOwnRecord, HasExactNotes}
use Rattle.sound_image.specs.Rules.{StandsRight, SameValueAsBefore, NotBefore, RecordsStandRight}
use Rattle.image_rules.specs.declared.record_slot.RecordSlot.{RecordSlot}
use Rattle.image_rules.specs.declared.records.RecordRule.{RecordRule}
use Rattle.image_rules.specs.declared.records.RecordRule.TheVariants.{Stand, Value, Once}
use Rattle.image_rules.specs.Divided.{IsDivided}

-- an image of this shape has the record slot
pub record IsRecordSlot (shape : Shape) (record_slot : RecordSlot) : Type 0 where
  pub segment : record_slot.segment < shape.segments
  pub bucket : record_slot.bucket < buckets
  pub slot : record_slot.slot < record_slots

module _ (shape : Shape) (word : ImageWords) where
  -- slot r of bucket b of segment s has a record
  abbrev pub IsTaken : ℕ → ℕ → ℕ → Type 0
  IsTaken s b r = allocated r (word_in shape word s b mark_place) ≡ 1

  -- the hashes have owners, and the records stand where they are looked for
  pub record IsStanding : Type 0 where
    pub divided : IsDivided shape word
    pub stand : (w : ℕ) → RecordsStandRight shape word w

  -- the hashes have owners, and the records of this segment stand where they are looked for
  pub record IsStandingIn (s : ℕ) : Type 0 where
    pub divided : IsDivided shape word
    pub stand : (b r : ℕ) → HasOwnRecord shape word s b r → StandsRight shape word s b r

  -- what is known before a rule is looked at in segment s
  abbrev pub Needs : RecordRule → ℕ → Type 0
  Needs Stand s = IsDivided shape word
  Needs Value s = IsStandingIn s
  Needs Once s = IsStandingIn s

  -- what a rule says of the record in slot r of bucket b of segment s: if it is the segment's own, that it stands right, or
  -- that those of its key before it have its value; or that it is the segment's own, and none of its key is before it
  abbrev pub Follows : RecordRule → ℕ → ℕ → ℕ → Type 0
  Follows Stand s b r = Owns (frame_of shape word) s (slot_hash shape word s b r) → StandsRight shape word s b r
  Follows Value s b r = Owns (frame_of shape word) s (slot_hash shape word s b r) → SameValueAsBefore shape word s b r
  Follows Once s b r = Owns (frame_of shape word) s (slot_hash shape word s b r) × NotBefore shape word s b r

  -- what a rule allows of two records of a key: to have one value, or nothing
  abbrev pub Agrees : RecordRule → RecordSlot → RecordSlot → Type 0
  Agrees Stand record_slot other = ⊥
  Agrees Value record_slot other =
      slot_value shape word other.segment other.bucket other.slot ≡ slot_value shape word record_slot.segment record_slot.bucket record_slot.slot
  Agrees Once record_slot other = ⊥

  -- another record slot of the segment has a record of the same key
  pub record IsTwin (record_slot other : RecordSlot) : Type 0 where
    pub same_segment : other.segment ≡ record_slot.segment
    pub taken : IsTaken other.segment other.bucket other.slot
    pub same_key : slot_key shape word other.segment other.bucket other.slot ≡ slot_key shape word record_slot.segment record_slot.bucket record_slot.slot

  -- the record slot in the same segment
  abbrev pub beside : RecordSlot → ℕ → ℕ → RecordSlot
  beside record_slot c t = record { segment = record_slot.segment; bucket = c; slot = t }

  -- records of the same key in slots of bucket c below a limit agree with it
  abbrev pub AgreeBelow : RecordRule → RecordSlot → ℕ → ℕ → Type 0
  AgreeBelow rule record_slot c limit = (t : ℕ) → t < limit → IsTwin record_slot (beside record_slot c t) → Agrees rule record_slot (beside record_slot c t)

  -- those of bucket c before it agree with it
  abbrev pub AgreeIn : RecordRule → RecordSlot → ℕ → Type 0
  AgreeIn rule record_slot c =
      (t : ℕ) → t < record_slots → key_at shape record_slot.segment c t < key_at shape record_slot.segment record_slot.bucket record_slot.slot → IsTwin record_slot (beside record_slot c t)
      → Agrees rule record_slot (beside record_slot c t)

  -- those of the segment before it agree with it
  abbrev pub AgreeBefore : RecordRule → RecordSlot → Type 0
  AgreeBefore rule record_slot =
      (c t : ℕ) → HasRecord shape word record_slot.segment c t → key_at shape record_slot.segment c t < key_at shape record_slot.segment record_slot.bucket record_slot.slot
      → slot_key shape word record_slot.segment c t ≡ slot_key shape word record_slot.segment record_slot.bucket record_slot.slot → Agrees rule record_slot (beside record_slot c t)

  -- THE FIRST RECORD of which a rule does not hold
  -- the rule holds of each record of a bucket in a slot below a limit
  abbrev pub FollowBelow : RecordRule → ℕ → ℕ → ℕ → Type 0
  FollowBelow rule s b limit = (r : ℕ) → r < limit → IsTaken s b r → Follows rule s b r

  -- slot r is the first of bucket b with a record of which the rule does not hold
  pub record IsFirstBroken (rule : RecordRule) (s b r : ℕ) : Type 0 where
    pub slot : r < record_slots
    pub taken : IsTaken s b r
    pub broken : Follows rule s b r → ⊥
    pub before : FollowBelow rule s b r

  -- the rule holds of each record of the buckets below a limit
  abbrev pub BucketsFollow : RecordRule → ℕ → ℕ → Type 0
  BucketsFollow rule s limit = (b : ℕ) → b < limit → FollowBelow rule s b record_slots

  -- the key's word is that of the first record of the segment of which the rule does not hold
  pub record IsFirstKey (rule : RecordRule) (s w : ℕ) : Type 0 where
    pub b : ℕ
    pub r : ℕ
    pub bucket : b < buckets
    pub first : IsFirstBroken rule s b r
    pub buckets_before : BucketsFollow rule s b
    pub at_key : w ≡ key_at shape s b r

  -- the rule holds of each record of the segments below a limit
  abbrev pub SegmentsFollow : RecordRule → ℕ → Type 0
  SegmentsFollow rule limit = (s : ℕ) → s < limit → BucketsFollow rule s buckets

  -- the key's word is that of the first record of the image of which the rule does not hold
  pub record IsFirstOfAll (rule : RecordRule) (w : ℕ) : Type 0 where
    pub s : ℕ
    pub segment : s < shape.segments
    pub first : IsFirstKey rule s w
    pub segments_before : SegmentsFollow rule s

  -- A CLEAN IMAGE
  -- what it has at the words of bucket b: it is unlocked, its notes are exact, and each record is the segment's own and
  -- the only one of its key
  pub record IsRepairedAt (s b w : ℕ) : Type 0 where
    pub lock : w ≡ bucket_at shape s b → lock_bit (word_in shape word s b lock_place) ≡ 0
    pub notes : b < homes → w ≡ bucket_at shape s b + mark_place → HasExactNotes shape word s b
    pub once : (r : ℕ) → r < record_slots → IsTaken s b r → w ≡ key_at shape s b r → Follows Once s b r

  -- a word of bucket b is the least at which it is not so
  pub record IsBrokenIn (s b w : ℕ) : Type 0 where
    pub from : bucket_at shape s b ≤ w
    pub within : w < bucket_at shape s b + block
    pub broken : IsRepairedAt s b w → ⊥
    pub before : (v : ℕ) → v < w → IsRepairedAt s b v

  -- buckets below a limit are repaired
  abbrev pub AreRepaired : ℕ → ℕ → Type 0
  AreRepaired s limit = (b : ℕ) → b < limit → (w : ℕ) → IsRepairedAt s b w
