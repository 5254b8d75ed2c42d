-- The pairs of an image against a plain map: all of them, or what a power cut may leave of them, key by key.
use Rattle.std.specs.Prelude.{◌≡◌, ℕ, ◌⊎◌, List, Contains}
use Rattle.std.specs.FinMap.{get}
use Rattle.map_model.specs.declared.call.Call.{Call}
use Rattle.map_model.specs.Map.{Map, key_of, reply_of, after}
use Rattle.sound_image.specs.Places.{Shape}
use Rattle.sound_image.specs.Segments.{ImageWords}
use Rattle.sound_image.specs.Records.{HasAt}

module _ (shape : Shape) (word : ImageWords) where
  -- at this key the image has what the map has
  abbrev pub AgreesAt : Map → ℕ → Type 0
  AgreesAt m k = HasAt shape word k (get m k)

  -- the pairs of the image are the map
  abbrev pub HasPairsOf : Map → Type 0
  HasPairsOf m = (k : ℕ) → AgreesAt m k

  -- at each key the image has what the map has, or what it has after one of the open calls, which is on this key
  abbrev pub IsLeft : Map → List Call → Type 0
  IsLeft m calls =
      (k : ℕ) → AgreesAt m k ⊎ ((call : Call) × Contains calls call × (key_of call ≡ k) × AgreesAt (after m call (reply_of m call)) k)
