-- What the frame of a medium and that of the newest words have in common, though some stores are not settled.
use Rattle.std.specs.Prelude.{◌≡◌, ℕ, ◌<◌, ◌≤◌}
use Rattle.hash_word.specs.Hash.{first_hash_of}
use Rattle.sound_image.specs.Segments.{Frame, depth_at, pattern_at, IsLive}

-- the first of the hashes that a segment covers
abbrev pub first_hash : Frame → ℕ → ℕ
first_hash frame s = first_hash_of (depth_at frame s) (pattern_at frame s)

-- a segment that is live in the one is live in the other, where it begins at the same hash and is no less deep
abbrev pub StaysLive : Frame → Frame → ℕ → Type 0
StaysLive medium newest s =
    IsLive medium s → IsLive newest s × (first_hash newest s ≡ first_hash medium s) × (depth_at medium s ≤ depth_at newest s)

-- so it is with the segment of each slot
pub record IsSteady (medium newest : Frame) : Type 0 where
  pub slots : newest.segments ≡ medium.segments
  pub stays : (s : ℕ) → s < medium.segments → StaysLive medium newest s
