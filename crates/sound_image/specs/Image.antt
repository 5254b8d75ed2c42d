-- The file of an image, and when its words are a sound image.
use Rattle.std.specs.Prelude.{◌≡◌, ℕ, ◌^◌, ◌<◌, List, length, slice_index}
use Rattle.std.specs.List.{flat_map}
use Rattle.byteorder.specs.Endian.{little_bytes}
use Rattle.image_layout.specs.Places.{Shape, IsShape, format_word, front_magic, front_format, front_segments, front_depth, words_of}
use Rattle.sound_image.specs.Segments.{ImageWords}
use Rattle.sound_image.specs.Rules.{FollowsRules}

-- how many bytes a word has
abbrev pub word_bytes : ℕ
word_bytes = 8

-- the file of an image has so many bytes for each word, the lowest first
abbrev pub image_bytes : List ℕ → List ℕ
image_bytes words = flat_map (little_bytes word_bytes) words

-- the first word: its bytes are the text DASHEH01
abbrev pub magic : ℕ
magic = 0x3130484548534144

-- the first four words say what the image is and how it is laid out
pub record SaysShape (shape : Shape) (word : ImageWords) : Type 0 where
  pub magic_word : word front_magic ≡ magic
  pub format : word front_format ≡ format_word shape.kind
  pub segments : word front_segments ≡ shape.segments
  pub depth : word front_depth ≡ shape.depth

-- a sound image: all words of a shape in range, each of 64 bits, which say that shape and follow the rules
pub record IsSoundImage (shape : Shape) (words : List ℕ) : Type 0 where
  pub in_range : IsShape shape
  pub whole : length words ≡ words_of shape
  pub each_fits : (i : ℕ) → slice_index words i < 2 ^ 64
  pub says_shape : SaysShape shape (slice_index words)
  pub follows : FollowsRules shape (slice_index words)

-- the bytes are the file of a sound image of this shape
pub record IsSoundFileOf (shape : Shape) (bytes : List ℕ) : Type 0 where
  pub words : List ℕ
  pub sound : IsSoundImage shape words
  pub file : bytes ≡ image_bytes words
