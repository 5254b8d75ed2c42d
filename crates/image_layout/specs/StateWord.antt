-- The state word of an image: its version and the clean marker.
use Rattle.std.specs.Prelude.{◌≡◌, ℕ, ◌+◌, ◌-◌, ◌/◌, ◌%◌, ◌^◌, ◌==◌, if◌then◌else◌}
use Rattle.hash_word.specs.Hash.{version_bits}
pub use Rattle.hash_word.specs.Hash.{version_in}

-- the version that no image has
abbrev pub no_version : ℕ
no_version = 0

-- the version of a new image, and of one whose headers lost theirs
abbrev pub first_version : ℕ
first_version = 1

-- the last version that an image may have
abbrev pub last_image_version : ℕ
last_image_version = 2 ^ version_bits - 1

-- the clean marker: bit 8
abbrev pub marker : ℕ
marker = 2 ^ version_bits

-- 1 where the image is marked clean
abbrev pub marker_in : ℕ → ℕ
marker_in state = state / marker % 2

-- the image is marked clean
abbrev pub IsMarked : ℕ → Type 0
IsMarked state = marker_in state ≡ 1

-- the state word with the marker set
abbrev pub with_marker : ℕ → ℕ
with_marker state = if marker_in state == 1 then state else state + marker
