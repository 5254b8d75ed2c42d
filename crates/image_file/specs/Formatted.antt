-- The words of the image of an empty table: of each geometry, six are said, and the others are zero.
use Rattle.std.specs.Prelude.{◌≡◌, ◌≢◌, ℕ, ◌≤◌, List, length, slice_index}
use Rattle.segment_head.specs.HeadWord.{header_of, normal}
use Rattle.image_layout.specs.Places.{Shape, front_words, state_word, header_word, words_of}
use Rattle.image_layout.specs.StateWord.{first_version, with_marker}
use Rattle.sound_image.specs.Image.{SaysShape}

-- the word of the state of the first segment
abbrev pub first_header : Shape → ℕ
first_header shape = header_word shape 0

-- the words say the shape, version 1 and the clean marker, and that the segment in slot 0 is normal, of version 1,
-- and covers every hash; each other word is 0
pub record IsFormatted (shape : Shape) (words : List ℕ) : Type 0 where
  pub whole : length words ≡ words_of shape
  pub says_shape : SaysShape shape (slice_index words)
  pub status : slice_index words state_word ≡ with_marker first_version
  pub header : slice_index words (first_header shape) ≡ header_of first_version normal 0 0
  pub others : (i : ℕ) → front_words ≤ i → i ≢ state_word → i ≢ first_header shape → slice_index words i ≡ 0
