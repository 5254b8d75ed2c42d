-- The owner of a hash, computed.
use Rattle.std.specs.Prelude.{ℕ, zero, suc, ◌==◌, ◌&&◌, ◌||◌, Bool, nat_lt, Option, None, Some, if◌then◌else◌}
use Rattle.hash_word.specs.Hash.{top}
use Rattle.segment_head.specs.HeadWord.{normal, splitting}
use Rattle.sound_image.specs.Segments.{Frame, state_at, depth_at, pattern_at}

module _ (frame : Frame) where
  -- whether the segment in a slot is live and covers the hash
  abbrev pub covers_live : ℕ → ℕ → Bool
  covers_live h s = ((state_at frame s == normal) || (state_at frame s == splitting)) && (top (depth_at frame s) h == pattern_at frame s)

  -- of a slot found before and another one, the one with the deeper segment
  abbrev pub deeper_of : Option ℕ → ℕ → Option ℕ
  deeper_of None s = Some s
  deeper_of (Some o) s = if nat_lt (depth_at frame o) (depth_at frame s) then Some s else Some o

  -- the deepest live segment that covers the hash, among the first n slots
  unfoldable pub owner_below : ℕ → ℕ → Option ℕ
  owner_below h zero = None
  owner_below h (suc n) = if covers_live h n then deeper_of (owner_below h n) n else owner_below h n

  -- among all slots
  abbrev pub owner : ℕ → Option ℕ
  owner h = owner_below h frame.segments
