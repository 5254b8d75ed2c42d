-- WHICH RECORD MOVES: the lowest that may, forward where one may and else backward, to the lowest free slot of the third bucket.
use Rattle.std.specs.Prelude.{◌≡◌, ℕ, ◌<◌, ⊤, ◌⊎◌, Some, slice_index}
use Rattle.bucket_meta.specs.Bucket.{allocated, member, record_slots, mark_place}
use Rattle.bucket_meta.specs.Search.{lowest_free}
use Rattle.bucket_meta.specs.Slots.{IsFull, HasOnlyMembers}
use Rattle.phase.specs.declared.kept.Kept.{Kept}
use Rattle.phase.specs.Buckets.{words_in}
use Rattle.move_op.specs.declared.step.Direction.{Direction}
use Rattle.move_op.specs.declared.step.Direction.TheVariants.{Forward, Backward}
use Rattle.move_op.specs.declared.step.Shift.{Shift}
use Rattle.move_op.specs.Shifts.{source_of, target_of, bit_of}

-- by the metadata words of the probing and the next bucket no record can move on
abbrev pub StaysForward : Kept → Type 0
StaysForward kept = HasOnlyMembers (slice_index kept.buckets.probing mark_place) ⊎ IsFull (slice_index kept.buckets.next mark_place)

-- a direction has its turn: the second one where no record can move in the first
abbrev pub HasTurn : Direction → Kept → Type 0
HasTurn Forward kept = ⊤
HasTurn Backward kept = StaysForward kept

module _ (kept : Kept) (direction : Direction) where
  -- the metadata words of the bucket that the record leaves, and of that to which it comes
  abbrev pub source_word : ℕ
  source_word = slice_index (words_in kept.buckets (source_of direction)) mark_place

  abbrev pub target_word : ℕ
  target_word = slice_index (words_in kept.buckets (target_of direction)) mark_place

  -- a record may leave this slot
  pub record MayLeave (slot : ℕ) : Type 0 where
    pub within : slot < record_slots
    pub taken : allocated slot source_word ≡ 1
    pub bit : member slot source_word ≡ bit_of direction

-- IT IS THE LOWEST ONE, by the words that are kept
pub record IsInOrder (kept : Kept) (shift : Shift) : Type 0 where
  pub turn : HasTurn shift.direction kept
  pub source : MayLeave kept shift.direction shift.clearing.slot
  pub lowest : (slot : ℕ) → slot < shift.clearing.slot → MayLeave kept shift.direction slot → ⊥
  pub target : lowest_free (target_word kept shift.direction) ≡ Some shift.copy.slot
