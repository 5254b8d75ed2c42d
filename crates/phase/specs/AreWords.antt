-- What a machine keeps of a bucket are words, and a bucket has 32 of them.
use Rattle.std.specs.Prelude.{◌≡◌, ℕ, ◌^◌, ◌<◌, List, length, slice_index}
use Rattle.image_layout.specs.Places.{block}

pub record AreWords (words : List ℕ) : Type 0 where
  pub small : (i : ℕ) → slice_index words i < 2 ^ 64
  pub whole : length words ≡ block
