-- The words in front of a file.
use Rattle.std.specs.Prelude.{◌≡◌, ℕ, ◌<◌, ◌≤◌, List, length, slice_index}
use Rattle.image_layout.specs.Places.{front_words}
use Rattle.image_file.specs.Fault.{front_bytes, word_in_file}

-- the bytes are long enough to be looked at, and their first four words are these
pub record BeginsWith (bytes front : List ℕ) : Type 0 where
  pub long : front_bytes ≤ length bytes
  pub each : (i : ℕ) → i < front_words → word_in_file bytes i ≡ slice_index front i
