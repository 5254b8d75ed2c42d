-- The map that the records of an image make, from which a run starts.
use Rattle.std.specs.Prelude.{ℕ, zero, suc, ◌*◌, ◌/◌, ◌%◌, Bool, false, ◌==◌, ◌&&◌, Option, None, Some, if◌then◌else◌}
use Rattle.std.specs.FinMap.{empty, insert}
use Rattle.map_model.specs.Map.{Map}
use Rattle.bucket_meta.specs.Bucket.{record_slots, mark_place}
use Rattle.bucket_meta.specs.Search.{is_taken}
use Rattle.image_layout.specs.Places.{Shape, buckets, segment_slots}
use Rattle.sound_image.specs.Segments.{ImageWords, frame_of}
use Rattle.sound_image.specs.Records.{key_hash, word_in, slot_key, slot_value}
use Rattle.segment_table.specs.Owner.{owner}

-- the owner that was found is this segment
abbrev pub is_owner : Option ℕ → ℕ → Bool
is_owner None s = false
is_owner (Some o) s = o == s

module _ (shape : Shape) (word : ImageWords) where
  -- slot t, of all of each segment, is slot t % record_slots of bucket t / record_slots % buckets of segment t / segment_slots
  abbrev pub key_of_slot : ℕ → ℕ
  key_of_slot t = slot_key shape word (t / segment_slots) (t / record_slots % buckets) (t % record_slots)

  abbrev pub value_of_slot : ℕ → ℕ
  value_of_slot t = slot_value shape word (t / segment_slots) (t / record_slots % buckets) (t % record_slots)

  -- it has a record, and its segment owns the hash of the record's key: after a power cut records may stand in other segments too
  abbrev pub has_record : ℕ → Bool
  has_record t =
      is_taken (word_in shape word (t / segment_slots) (t / record_slots % buckets) mark_place) (t % record_slots) && is_owner (owner (frame_of shape word) (key_hash shape (key_of_slot t))) (t / segment_slots)

  -- the map of the records in the slots below a limit
  unfoldable pub map_below : ℕ → Map
  map_below zero = empty
  map_below (suc t) = if has_record t then insert (map_below t) (key_of_slot t) (value_of_slot t) else map_below t

  -- the map of all records
  abbrev pub opening_of : Map
  opening_of = map_below (segment_slots * shape.segments)
