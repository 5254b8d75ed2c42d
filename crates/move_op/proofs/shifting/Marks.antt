-- The metadata word with a slot taken, forward by a member and backward by a record that is at home; and where both stand.
use Rattle.std.proofs.Common.{◌≡◌, ℕ, ◌/◌, ◌^◌, ◌<◌, inl, inr, ◌∙◌, ap, arith}
use Rattle.hash_word.specs.Hash.{home_of, probing_of, next_of}
use Rattle.bucket_meta.specs.Bucket.{allocated, member}
use Rattle.bucket_meta.specs.Marks.{SameButSlot}
use Rattle.bucket_meta.proofs.Marks.{takes_slot, takes_slot_as_member}
use Rattle.bucket_meta.proofs.fields.Uppers.{inserted_upper, member_upper, inserted_fits, member_fits}
use Rattle.image_layout.specs.Places.{Shape}
use Rattle.image_layout.specs.Standing.{StandsAt}
use Rattle.sound_image.specs.Records.{key_hash}
use Rattle.phase.specs.Places.{bucket_of_role}
use Rattle.move_op.specs.declared.step.Direction.{Direction}
use Rattle.move_op.specs.declared.step.Direction.TheVariants.{Forward, Backward}
use Rattle.move_op.specs.Shifts.{source_of, target_of, home_place, arrived_mark}

-- the membership bit of what arrives
abbrev pub arrived_bit : Direction → ℕ
arrived_bit Forward = 1
arrived_bit Backward = 0

-- the mark takes its slot, with that bit, and leaves all else
pub record Arrives (direction : Direction) (w slot : ℕ) : Type 0 where
  pub taken : allocated slot (arrived_mark direction w slot) ≡ 1
  pub has_bit : member slot (arrived_mark direction w slot) ≡ arrived_bit direction
  pub others : SameButSlot slot w (arrived_mark direction w slot)
  pub upper : arrived_mark direction w slot / 2 ^ 28 ≡ w / 2 ^ 28
  pub fits : arrived_mark direction w slot < 2 ^ 64

pub arrives : (direction : Direction) (w slot : ℕ) → w < 2 ^ 64 → slot < 14 → Arrives direction w slot
arrives Forward w slot fits low =
    let t = takes_slot_as_member w slot low in
    record { taken = t.taken; has_bit = t.is_member; others = t.others; upper = member_upper w slot fits low; fits = member_fits w slot fits low }
arrives Backward w slot fits low =
    let t = takes_slot w slot low in
    record { taken = t.taken; has_bit = t.at_home; others = t.others; upper = inserted_upper w slot fits low; fits = inserted_fits w slot fits low }

-- the next bucket is the probing bucket of the probing bucket
next_is : (h : ℕ) → next_of h ≡ probing_of (probing_of h)
next_is h = omega arith

-- with that bit the copy stands right in the third bucket, where its key has the home that it is to have
pub copy_stands : (shape : Shape) (direction : Direction) (hash k bit : ℕ) → bit ≡ arrived_bit direction → bucket_of_role hash (home_place direction) ≡ home_of (key_hash shape k)
    → StandsAt shape (bucket_of_role hash (target_of direction)) k bit
copy_stands shape Forward hash k bit is home = inr (inl (next_is (home_of hash) ∙ ap probing_of home, is))
copy_stands shape Backward hash k bit is home = inl (home, is)

-- and the new record in the slot that was cleared
pub insert_stands : (shape : Shape) (direction : Direction) (hash k bit : ℕ) → bit ≡ arrived_bit direction → hash ≡ key_hash shape k → StandsAt shape (bucket_of_role hash (source_of direction)) k bit
insert_stands shape Forward hash k bit is hashed = inr (inl (ap (λ h. probing_of (home_of h)) hashed, is))
insert_stands shape Backward hash k bit is hashed = inl (ap home_of hashed, is)
