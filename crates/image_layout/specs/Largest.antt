-- The largest image, and that its numbers are those that are written out.
use Rattle.std.specs.Prelude.{◌≡◌, ℕ, ◌+◌}
use Rattle.image_layout.specs.Places.{Shape, entries_of, most_segments, most_depth, most_power, first_segment, first_segment_of_largest, words_of, most_words}

-- the largest image with this kind of hash
abbrev pub largest : ℕ → Shape
largest kind = record { segments = most_segments; depth = most_depth; kind = kind }

-- two to the power of one more than its depth, where its segments begin, and how many words it has
pub record IsWrittenOut (kind : ℕ) : Type 0 where
  pub power : most_power ≡ entries_of ((largest kind).depth + 1)
  pub first : first_segment_of_largest ≡ first_segment (largest kind)
  pub words : most_words ≡ words_of (largest kind)

-- whatever its kind of hash is
abbrev pub LargestIsWrittenOut : Type 0
LargestIsWrittenOut = (kind : ℕ) → IsWrittenOut kind
