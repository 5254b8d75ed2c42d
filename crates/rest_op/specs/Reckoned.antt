-- What is reckoned at the beginning, by what is kept of the segment: word 1 of each bucket without the records that went to the side, and the
-- notes of the records that are left.
use Rattle.std.specs.Prelude.{◌≡◌, ℕ, ◌^◌, ◌<◌, slice_index}
use Rattle.bucket_meta.specs.Marks.{cleared_mark}
use Rattle.bucket_meta.specs.Bucket.{KeepsRecords}
use Rattle.image_layout.specs.Places.{homes, buckets}
use Rattle.sound_image.specs.Records.{key_hash}
use Rattle.whole_segment.specs.Words.{words_by}
use Rattle.whole_segment.specs.Records.{uncovered_first}
use Rattle.image_layout.specs.Standing.{stashed_of, HasExactNotes}
use Rattle.whole_segment.specs.Rebuilding.{Overflow, first_with, third_with, rebuilt}
use Rattle.whole_segment.specs.declared.notes.Notes.{Notes}
use Rattle.enclose_op.specs.declared.enclosed.Enclosed.{Enclosed}
use Rattle.enclose_op.specs.Whole.{kept_first, kept_third, kept_key, side_slots}
pub use Rattle.enclose_op.specs.Whole.{side_depth, side_pattern}
use Rattle.rest_op.specs.declared.op.RestOp.{RestOp}
use Rattle.rest_op.specs.Steps.{begun}

-- ---- what is right
-- word 1 of a bucket without the records that the side covers
abbrev pub cleared_of : Enclosed → ℕ → ℕ
cleared_of e = uncovered_first (kept_first e) (kept_key e) (key_hash e.site.geometry) (side_depth e) (side_pattern e)

-- IT IS RECKONED RIGHT: what is cleared, and exact notes of what is left, with words that say of the record slots what they said
pub record IsReckoned (op : RestOp) : Type 0 where
  pub cleared : (b : ℕ) → b < buckets → slice_index op.cleared b ≡ cleared_of op.whole b
  pub records : (b : ℕ) → b < homes → KeepsRecords (cleared_of op.whole b) (kept_third op.whole b) (slice_index op.notes.first b) (slice_index op.notes.third b)
  pub exact : (b : ℕ) → b < homes → HasExactNotes (λ c. slice_index op.notes.first c) (λ c. slice_index op.notes.third c) b
      (stashed_of (cleared_of op.whole) (kept_key op.whole) (key_hash op.whole.site.geometry) b)
  pub cleared_small : (b : ℕ) → slice_index op.cleared b < 2 ^ 64
  pub first_small : (b : ℕ) → slice_index op.notes.first b < 2 ^ 64
  pub third_small : (b : ℕ) → slice_index op.notes.third b < 2 ^ 64

-- ---- what is reckoned, whatever the header is
module _ (e : Enclosed) where
  -- word 1 of each bucket without the records that go to the side
  abbrev pub left_first : ℕ → ℕ
  left_first b = cleared_mark (kept_first e b) (side_slots e b)

  -- the notes of each home, made anew of those records that are left in the stash
  abbrev pub left_notes : ℕ → Overflow
  left_notes = rebuilt left_first (kept_key e) (key_hash e.site.geometry)

  -- words 1 and 3 of each home with these notes
  abbrev pub notes_left : Notes
  notes_left = record { first = words_by homes (λ b. first_with (left_first b) (left_notes b)); third = words_by homes (λ b. third_with (kept_third e b) (left_notes b)) }

-- THE REST OF A SPLIT of an enclosed segment, with nothing stored yet
abbrev pub rest_of : Enclosed → RestOp
rest_of e = begun e (words_by buckets (left_first e)) (notes_left e)
