-- The core of a word: what of it a rule or a pair depends on between a restart and a close. Of a lock word that is
-- nothing, and of a bucket's metadata all but the overflow parts.
use Rattle.std.specs.Prelude.{◌≡◌, ℕ, zero, suc, ◌+◌, ◌-◌, ◌<◌, ◌≤◌, nat_lt, ◌==◌, ◌||◌, if◌then◌else◌}
use Rattle.trace.specs.Events.{Words}
use Rattle.bucket_meta.specs.Bucket.{mark_place, slots_part, slot_fingers_part}
use Rattle.image_layout.specs.Places.{Shape, first_segment, words_of, bucket_at, block, header_block, block_in_slot, among_slots, place_in_bucket}

-- of word n of a bucket, counted up from zero: of its lock word nothing, of `mark_place` the record slots, `fingers_place` as it is, of
-- `rest_place` the fingerprints of record slots, and each word behind these as it is
abbrev pub core_in_bucket : ℕ → ℕ → ℕ
core_in_bucket zero x = 0
core_in_bucket (suc zero) x = slots_part x
core_in_bucket (suc (suc zero)) x = x
core_in_bucket (suc (suc (suc zero))) x = slot_fingers_part x
core_in_bucket (suc (suc (suc (suc n)))) x = x

module _ (shape : Shape) where
  -- the words of a segment go in groups, the blocks of its slot: its header, and its buckets
  abbrev pub group_of : ℕ → ℕ
  group_of i = block_in_slot (among_slots shape i)

  -- the core of word i with the value x: the words in front, those of a header, and those behind the image are whole
  abbrev pub core_of : ℕ → ℕ → ℕ
  core_of i x =
      if nat_lt i (first_segment shape) || (group_of i == header_block) || nat_lt (words_of shape - 1) i then x
      else core_in_bucket (place_in_bucket (among_slots shape i)) x

  abbrev pub core : Words → Words
  core word i = core_of i (word i)

  -- the words of bucket b of segment s behind its lock word have the same cores in both
  abbrev pub SameCoresIn : Words → Words → ℕ → ℕ → Type 0
  SameCoresIn word other s b = (n : ℕ) → mark_place ≤ n → n < block → core word (bucket_at shape s b + n) ≡ core other (bucket_at shape s b + n)
