-- Where no shift is found, no record can move in that direction, by the words that are kept.
use Rattle.std.proofs.Common.{◌≡◌, ◌⊎◌, ℕ, ◌+◌, Option, None, Some, inl, inr, refl, sym, arith, slice_index}
use Rattle.std.proofs.lemmas.Bool.{cases_lt}
use Rattle.std.proofs.lemmas.Nat.Bits.{bit_at-lt}
use Rattle.std.proofs.lemmas.Option.{none-some}
use Rattle.bucket_meta.specs.Bucket.{member}
use Rattle.bucket_meta.specs.Search.{lowest_free}
use Rattle.bucket_meta.specs.Slots.{IsFull, HasOnlyMembers, HasNoMembers}
use Rattle.bucket_meta.proofs.Found.{none_free}
use Rattle.phase.specs.declared.kept.Kept.{Kept}
use Rattle.phase.specs.Buckets.{words_in}
use Rattle.move_op.specs.declared.step.Direction.{Direction}
use Rattle.move_op.specs.declared.step.Direction.TheVariants.{Forward, Backward}
use Rattle.move_op.specs.Shifts.{source_of, target_of, bit_of, lowest_of, moving_slot, shift_by, shift_in}
use Rattle.move_op.proofs.Slots.{no_slot}

-- a slot that is taken by no record with a bit is free, or its record has the other bit
only_members : (w1 : ℕ) → lowest_of 0 w1 ≡ None → HasOnlyMembers w1
only_members w1 none s low taken = elim (cases_lt (member s w1) 1) [
  | inl off ↦ absurd (no_slot 0 w1 none s low (record { taken = taken; same = omega (arith, off) }))
  | inr on ↦ (let most = bit_at-lt w1 (14 + s) in omega (arith, on, most))
]

no_members : (w1 : ℕ) → lowest_of 1 w1 ≡ None → HasNoMembers w1
no_members w1 none s low taken = elim (cases_lt (member s w1) 1) [
  | inl off ↦ omega (arith, off)
  | inr on ↦ absurd (no_slot 1 w1 none s low (record { taken = taken; same = (let most = bit_at-lt w1 (14 + s) in omega (arith, on, most)) }))
]

module _ (kept : Kept) (d : Direction) where
  abbrev w1 : ℕ
  w1 = slice_index (words_in kept.buckets (source_of d)) 1

  abbrev v1 : ℕ
  v1 = slice_index (words_in kept.buckets (target_of d)) 1

  none_by : (from to : Option ℕ) → lowest_free v1 ≡ to → moving_slot d w1 to ≡ from → shift_by kept d from to ≡ None → (lowest_of (bit_of d) w1 ≡ None) ⊎ IsFull v1
  none_by from None full e none = inr (none_free v1 full)
  none_by None (Some t) free e none = inl e
  none_by (Some s) (Some t) free e none = absurd (none-some _ (sym none))

  none_moves : shift_in kept d ≡ None → (lowest_of (bit_of d) w1 ≡ None) ⊎ IsFull v1
  none_moves none = none_by (moving_slot d w1 (lowest_free v1)) (lowest_free v1) refl refl none

pub none_forward : (kept : Kept) → shift_in kept Forward ≡ None → HasOnlyMembers (slice_index kept.buckets.probing 1) ⊎ IsFull (slice_index kept.buckets.next 1)
none_forward kept none = elim (none_moves kept Forward none) [ inl e ↦ inl (only_members (slice_index kept.buckets.probing 1) e) | inr full ↦ inr full ]

pub none_backward : (kept : Kept) → shift_in kept Backward ≡ None → HasNoMembers (slice_index kept.buckets.home 1) ⊎ IsFull (slice_index kept.buckets.previous 1)
none_backward kept none = elim (none_moves kept Backward none) [ inl e ↦ inl (no_members (slice_index kept.buckets.home 1) e) | inr full ↦ inr full ]
