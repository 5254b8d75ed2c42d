-- The words of a slot, of which those are nobody's that no segment lives in.
use Rattle.std.specs.Prelude.{◌≢◌, ℕ}
use Rattle.image_layout.specs.Places.{Shape, header_word, link_word}
pub use Rattle.image_layout.specs.Ranges.{IsInSlot}

-- word i is one of slot n, and neither its header word nor its link
pub record IsPlainInSlot (shape : Shape) (n i : ℕ) : Type 0 where
  pub inside : IsInSlot shape n i
  pub no_header : i ≢ header_word shape n
  pub no_link : i ≢ link_word shape n
