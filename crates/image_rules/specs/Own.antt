-- The pairs of an image by record slots: those of records that are their segment's own and the first of their key there.
use Rattle.std.specs.Prelude.{ℕ, ◌/◌, ◌%◌}
use Rattle.bucket_meta.specs.Bucket.{record_slots}
use Rattle.image_layout.specs.Places.{Shape, segment_slots}
use Rattle.sound_image.specs.Segments.{ImageWords, frame_of, Owns}
use Rattle.sound_image.specs.Records.{slot_key, slot_value, slot_hash}
use Rattle.sound_image.specs.Rules.{NotBefore}
use Rattle.image_rules.specs.declared.record_slot.RecordSlot.{RecordSlot}
use Rattle.image_rules.specs.Slots.{IsTaken}

-- record slot n of an image, bucket by bucket of each segment
abbrev pub record_slot_at : ℕ → RecordSlot
record_slot_at n = record { segment = n / segment_slots; bucket = n % segment_slots / record_slots; slot = n % record_slots }

module _ (shape : Shape) (word : ImageWords) where
  -- the record slot has a record that is its segment's own
  pub record IsOwnAt (n : ℕ) : Type 0 where
    pub taken : IsTaken shape word (record_slot_at n).segment (record_slot_at n).bucket (record_slot_at n).slot
    pub owned :
        Owns (frame_of shape word) (record_slot_at n).segment (slot_hash shape word (record_slot_at n).segment (record_slot_at n).bucket (record_slot_at n).slot)

  -- its key and its value
  abbrev pub pair_at : ℕ → ℕ × ℕ
  pair_at n = (
    slot_key shape word (record_slot_at n).segment (record_slot_at n).bucket (record_slot_at n).slot,
    slot_value shape word (record_slot_at n).segment (record_slot_at n).bucket (record_slot_at n).slot,
  )

  -- and no record of its key is before it in its segment
  pub record IsFirstAt (n : ℕ) : Type 0 where
    pub own : IsOwnAt n
    pub first : NotBefore shape word (record_slot_at n).segment (record_slot_at n).bucket (record_slot_at n).slot
