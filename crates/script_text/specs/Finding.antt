-- Where a byte stands first, or another than it.
use Rattle.std.specs.Prelude.{◌≡◌, ◌≢◌, ℕ, ◌<◌, List, length, slice_index}

-- the byte stands at this place, and at none before it
pub record IsFirstAt (byte : ℕ) (bytes : List ℕ) (place : ℕ) : Type 0 where
  pub within : place < length bytes
  pub here : slice_index bytes place ≡ byte
  pub before : (i : ℕ) → i < place → slice_index bytes i ≢ byte

-- another byte stands at this place, and this one at all places before it
pub record IsFirstOther (byte : ℕ) (bytes : List ℕ) (place : ℕ) : Type 0 where
  pub within : place < length bytes
  pub here : slice_index bytes place ≢ byte
  pub before : (i : ℕ) → i < place → slice_index bytes i ≡ byte
