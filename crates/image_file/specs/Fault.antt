-- When bytes are the file of an image, and which fault they have else.
use Rattle.std.specs.Prelude.{◌≡◌, ◌≢◌, ℕ, ◌*◌, ◌<◌, ◌≤◌, ◌⊎◌, List, length, drop, ⊤}
use Rattle.byteorder.specs.Endian.{little_number}
use Rattle.image_layout.specs.Places.{Shape, IsShape, most_kind, format_number, format_in, kind_in, block, front_magic, front_format, front_segments, front_depth, words_of}
use Rattle.sound_image.specs.Segments.{ImageWords}
use Rattle.sound_image.specs.Image.{word_bytes, magic, IsSoundFileOf}
use Rattle.image_file.specs.declared.fault.ImageFault.{ImageFault}
use Rattle.image_file.specs.declared.fault.ImageFault.TheVariants.{Length, Magic, Format, Geometry, Unsound, NoMemory}
use Rattle.image_rules.specs.Breach.{IsFirstBreach}

-- how many bytes the words in front of an image have, which are about the whole
abbrev pub front_bytes : ℕ
front_bytes = word_bytes * block

-- the words that bytes spell, eight bytes each, the lowest first
abbrev pub word_in_file : List ℕ → ImageWords
word_in_file bytes i = little_number word_bytes (drop (word_bytes * i) bytes)

-- the shape that words 1 to 3 say
abbrev pub shape_in : ImageWords → Shape
shape_in word = record { segments = word front_segments; depth = word front_depth; kind = kind_in (word front_format) }

module _ (word : ImageWords) where
  abbrev pub HasMagic : Type 0
  HasMagic = word front_magic ≡ magic

  -- the number of the format, and a kind of hash above it
  pub record HasFormat : Type 0 where
    pub number : format_in (word front_format) ≡ format_number
    pub kind : kind_in (word front_format) ≤ most_kind

-- all that is looked at before the rules is right
pub record IsFramed (bytes : List ℕ) : Type 0 where
  pub long : front_bytes ≤ length bytes
  pub magic_there : HasMagic (word_in_file bytes)
  pub format_there : HasFormat (word_in_file bytes)
  pub shape_there : IsShape (shape_in (word_in_file bytes))
  pub whole : length bytes ≡ word_bytes * words_of (shape_in (word_in_file bytes))

-- the bytes have magic and format, and say this of their shape
pub record HasFront (bytes : List ℕ) (Says : Shape → Type 0) : Type 0 where
  pub long : front_bytes ≤ length bytes
  pub magic_there : HasMagic (word_in_file bytes)
  pub format_there : HasFormat (word_in_file bytes)
  pub says : Says (shape_in (word_in_file bytes))

-- the bytes have this fault, and none that is looked at before it
abbrev pub HasFault : List ℕ → ImageFault → Type 0
HasFault bytes Length = (length bytes < front_bytes) ⊎ HasFront bytes (λ shape. IsShape shape × (length bytes ≢ word_bytes * words_of shape))
HasFault bytes Magic = (front_bytes ≤ length bytes) × (HasMagic (word_in_file bytes) → ⊥)
HasFault bytes Format = (front_bytes ≤ length bytes) × HasMagic (word_in_file bytes) × (HasFormat (word_in_file bytes) → ⊥)
HasFault bytes Geometry = HasFront bytes (λ shape. IsShape shape → ⊥)
HasFault bytes (Unsound broken word) = IsFramed bytes × IsFirstBreach (shape_in (word_in_file bytes)) (word_in_file bytes) broken word
HasFault bytes NoMemory = ⊤

-- the bytes are the file of a sound image
abbrev pub IsSoundFile : List ℕ → Type 0
IsSoundFile bytes = (shape : Shape) × IsSoundFileOf shape bytes
