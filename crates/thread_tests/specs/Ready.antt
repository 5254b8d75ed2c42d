-- A pass that may read and lock buckets.
use Rattle.std.specs.Prelude.{◌≡◌, ℕ, ◌<◌, None}
use Rattle.image_layout.specs.Places.{bucket_at}
use Rattle.world.specs.Views.{View}
use Rattle.world.specs.Attempts.{OwesNothing}
use Rattle.vlock.specs.Buckets.{MayCall, MayUnlock}
use Rattle.shared_image.specs.declared.image.SharedImage.{SharedImage}
use Rattle.shared_image.specs.Powered.{ground_in}

-- it stands for a caller, has no answer noted, holds nothing and owes nothing
abbrev pub IsReady : View → Type 0
IsReady v = MayCall v × (v.answer ≡ None) × OwesNothing v

-- it holds the lock of bucket 0 of a segment, and may give it back
abbrev pub HoldsFirst : SharedImage → ℕ → View → Type 0
HoldsFirst image segment v = (segment < (ground_in image).shape.segments) × MayCall v × MayUnlock v (bucket_at (ground_in image).shape segment 0)
