-- The stores of one record, up to where they are settled: what is wanted, and what comes after.
use Rattle.std.specs.Prelude.{ℕ, ◌+◌, nat_lt, if◌then◌else◌}
use Rattle.bucket_meta.specs.Bucket.{slot_of_place, key_behind, value_behind}
use Rattle.bucket_meta.specs.Marks.{finger_place}
use Rattle.trace.specs.Events.{line_words, line_of}
use Rattle.map_model.specs.declared.change.Effect.{Effect}
use Rattle.map_model.specs.declared.change.Effect.TheVariants.{Insert, Update, Remove}
use Rattle.op_core.specs.declared.want.Want.{Want}
use Rattle.op_core.specs.declared.want.Want.TheVariants.{Store, Flush, Fence}
use Rattle.phase.specs.declared.make.Record.{Record}
use Rattle.phase.specs.declared.make.Make.{Make}
use Rattle.phase.specs.declared.make.Make.TheVariants.{Key, Value, Fingers, FlushFingers, FlushRecord, FenceRecord, Publish, FlushPublished, FencePublished}
use Rattle.phase.specs.declared.make.Made.{Made}
use Rattle.phase.specs.declared.make.Made.TheVariants.{On, Settled}

-- the value that a change brings, and 0 where it brings none
abbrev pub brought : Effect → ℕ
brought (Insert value) = value
brought (Update value) = value
brought Remove = 0

-- ---- the words of a record in the bucket of a lock word
module _ (lock : ℕ) (written : Record) where
  abbrev pub key_at : ℕ
  key_at = key_behind lock written.slot

  abbrev pub value_at : ℕ
  value_at = value_behind lock written.slot

  -- the word of its fingerprint
  abbrev pub fingers_at : ℕ
  fingers_at = lock + finger_place written.slot

  -- the word whose store makes the change
  abbrev pub published_at : ℕ
  published_at = lock + written.published

  abbrev pub make_wanted : Make → Want
  make_wanted Key = Store key_at written.key
  make_wanted Value = Store value_at written.value
  make_wanted Fingers = Store fingers_at written.fingers
  make_wanted FlushFingers = Flush (line_of fingers_at)
  make_wanted FlushRecord = Flush (line_of key_at)
  make_wanted FenceRecord = Fence
  make_wanted Publish = Store published_at written.mark
  make_wanted FlushPublished = Flush (line_of published_at)
  make_wanted FencePublished = Fence

-- how many record slots have key and value in the first line of the bucket
abbrev pub slots_of_first_line : ℕ
slots_of_first_line = slot_of_place line_words

-- the line of the fingerprints is the first one of the bucket, and so the record's too for these slots
abbrev pub make_taken : ℕ → Make → Made
make_taken slot Key = On Value
make_taken slot Value = On Fingers
make_taken slot Fingers = On FlushFingers
make_taken slot FlushFingers = if nat_lt slot slots_of_first_line then On FenceRecord else On FlushRecord
make_taken slot FlushRecord = On FenceRecord
make_taken slot FenceRecord = On Publish
make_taken slot Publish = On FlushPublished
make_taken slot FlushPublished = On FencePublished
make_taken slot FencePublished = Settled
