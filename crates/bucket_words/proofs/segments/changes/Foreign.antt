-- Records leave that their segment does not own: no key has what it has by them, so a table stays one, and each key has what it had.
use Rattle.std.proofs.Common.{◌⊎◌, ℕ, ◌+◌, ◌<◌, inl, inr}
use Rattle.bucket_meta.specs.Bucket.{record_slots}
use Rattle.trace.specs.Events.{Words, with_word}
use Rattle.image_layout.specs.Places.{Shape, bucket_at, buckets}
use Rattle.bucket_words.specs.Slots.{SameSlot}
use Rattle.bucket_words.specs.Owners.{SameOwners}
use Rattle.bucket_words.specs.Standing.{IsTable}
use Rattle.bucket_words.specs.TableChanges.{KeepsTable, IsLeft, KeepsOrLeaves}
use Rattle.bucket_words.proofs.segments.changes.Vacated.{vacated_keeps}
use Rattle.bucket_words.proofs.segments.changes.Vacated as vacated

-- such a slot is vacated
pub left_keeps : (shape : Shape) (word other : Words) → IsTable shape word → SameOwners shape word other
    → ((q c t : ℕ) → q < shape.segments → c < buckets → t < record_slots → SameSlot word other (bucket_at shape q c) t ⊎ IsLeft shape word other q c t)
    → KeepsTable shape word other
left_keeps shape word other table owners each = vacated_keeps shape word other table owners (λ q c t seg near low. elim (each q c t seg near low) [
  | inl o ↦ inl o
  | inr f ↦ inr (record { free = f.free; stays = λ taken own. absurd (f.foreign taken own) })
])

-- A METADATA WORD IS STORED that frees such slots alone
pub cleared_keeps : (shape : Shape) (word : Words) → IsTable shape word → (s b x : ℕ) → s < shape.segments → b < buckets
    → ((r : ℕ) → r < record_slots → KeepsOrLeaves shape word s b x r) → KeepsTable shape word (with_word word (bucket_at shape s b + 1) x)
cleared_keeps shape word table s b x segment bucket each = vacated.cleared_keeps shape word table s b x segment bucket (λ r low. elim (each r low) [
  | inl o ↦ inl o
  | inr f ↦ inr (f.0, λ taken own. absurd (f.1 taken own))
])
