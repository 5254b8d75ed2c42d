-- Which record moves to make room for a new one, and what is stored of its copy, of its source, and of the new record.
use Rattle.std.specs.Prelude.{◌==◌, ◌&&◌, ℕ, Bool, Option, None, Some, List, slice_index}
use Rattle.hash_word.specs.Hash.{finger_of}
use Rattle.bucket_meta.specs.Bucket.{member, finger, record_slots, mark_place, fingers_place, rest_place, key_place, value_place}
use Rattle.bucket_meta.specs.Search.{lowest_among, is_taken, lowest_free}
use Rattle.bucket_meta.specs.Marks.{inserted_mark, member_mark, removed_mark, finger_place, with_finger}
use Rattle.phase.specs.declared.role.Role.{Role}
use Rattle.phase.specs.declared.role.Role.TheVariants.{Home, Probing, Next, Previous}
use Rattle.phase.specs.declared.make.Record.{Record}
use Rattle.phase.specs.declared.kept.Kept.{Kept}
use Rattle.phase.specs.Buckets.{words_in}
use Rattle.phase.specs.Makes.{brought}
use Rattle.move_op.specs.declared.step.Direction.{Direction}
use Rattle.move_op.specs.declared.step.Direction.TheVariants.{Forward, Backward}
use Rattle.move_op.specs.declared.step.Shift.{Shift}
use Rattle.move_op.specs.declared.step.Leg.{Leg}
use Rattle.move_op.specs.declared.step.Leg.TheVariants.{Copy, Clear, Insert}

-- ---- the two buckets
-- the bucket that the record leaves
abbrev pub source_of : Direction → Role
source_of Forward = Probing
source_of Backward = Home

-- the third bucket, to which it comes
abbrev pub target_of : Direction → Role
target_of Forward = Next
target_of Backward = Previous

-- the bucket that is its home
abbrev pub home_place : Direction → Role
home_place Forward = Probing
home_place Backward = Previous

-- ---- which record moves
-- the membership bit of a record that moves so: forward it stands in its home, backward in its probing bucket
abbrev pub bit_of : Direction → ℕ
bit_of Forward = 0
bit_of Backward = 1

-- a slot is taken by a record with this membership bit
abbrev pub has_bit : ℕ → ℕ → ℕ → Bool
has_bit bit w1 slot = is_taken w1 slot && (member slot w1 == bit)

-- the lowest such slot
abbrev pub lowest_of : ℕ → ℕ → Option ℕ
lowest_of bit w1 = lowest_among (has_bit bit w1) 0 record_slots

-- the slot of the record that moves, where a slot is free for it
abbrev pub moving_slot : Direction → ℕ → Option ℕ → Option ℕ
moving_slot direction w1 None = None
moving_slot direction w1 (Some to) = lowest_of (bit_of direction) w1

-- ---- what is stored
-- the metadata word with a slot taken, by the copy or by the new record: forward both stand in their probing bucket, and backward both
-- in their home
abbrev pub arrived_mark : Direction → ℕ → ℕ → ℕ
arrived_mark Forward w1 slot = member_mark w1 slot
arrived_mark Backward w1 slot = inserted_mark w1 slot

-- of the copy of a record in a slot of its new bucket
abbrev pub copied : Direction → List ℕ → ℕ → List ℕ → ℕ → Record
copied direction source from target to = record {
  slot = to;
  key = slice_index source (key_place from);
  value = slice_index source (value_place from);
  fingers = with_finger (slice_index target (finger_place to)) to (finger from (slice_index source fingers_place) (slice_index source rest_place));
  published = mark_place;
  mark = arrived_mark direction (slice_index target mark_place) to;
}

-- where it stood: the metadata word alone
abbrev pub cleared : List ℕ → ℕ → Record
cleared source from = record { slot = from; key = 0; value = 0; fingers = 0; published = mark_place; mark = removed_mark (slice_index source mark_place) from }

-- of the new record, in the slot that was cleared
abbrev pub placed : Direction → Kept → List ℕ → ℕ → Record
placed direction kept source from = record {
  slot = from;
  key = kept.change.key;
  value = brought kept.change.effect;
  fingers = with_finger (slice_index source (finger_place from)) from (finger_of kept.hash);
  published = mark_place;
  mark = arrived_mark direction (removed_mark (slice_index source mark_place) from) from;
}

-- THE SHIFT of the record of one slot to another
abbrev pub shift_at : Kept → Direction → ℕ → ℕ → Shift
shift_at kept direction from to = record {
  direction = direction;
  copy = copied direction (words_in kept.buckets (source_of direction)) from (words_in kept.buckets (target_of direction)) to;
  clearing = cleared (words_in kept.buckets (source_of direction)) from;
  insert = placed direction kept (words_in kept.buckets (source_of direction)) from;
}

-- where a record can move and a slot is free for it
abbrev pub shift_by : Kept → Direction → Option ℕ → Option ℕ → Option Shift
shift_by kept direction (Some from) (Some to) = Some (shift_at kept direction from to)
shift_by kept direction from to = None

-- the shift that makes room in this direction, by the words that are kept
abbrev pub shift_in : Kept → Direction → Option Shift
shift_in kept direction =
    shift_by kept direction
    (moving_slot direction (slice_index (words_in kept.buckets (source_of direction)) mark_place) (lowest_free (slice_index (words_in kept.buckets (target_of direction)) mark_place)))
    (lowest_free (slice_index (words_in kept.buckets (target_of direction)) mark_place))

-- ---- one after another
-- the bucket in which this is stored, and what
abbrev pub place_of : Direction → Leg → Role
place_of direction Copy = target_of direction
place_of direction Clear = source_of direction
place_of direction Insert = source_of direction

abbrev pub record_of : Shift → Leg → Record
record_of shift Copy = shift.copy
record_of shift Clear = shift.clearing
record_of shift Insert = shift.insert
