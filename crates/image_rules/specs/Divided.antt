-- What is known of an image whose first rules hold: its numbers are in their ranges, and each hash has one owner.
use Rattle.std.specs.Prelude.{◌≡◌, ℕ, ◌^◌, ◌<◌}
use Rattle.segment_head.specs.HeadWord.{link_to}
use Rattle.image_layout.specs.Places.{Shape, IsShape}
use Rattle.sound_image.specs.Segments.{ImageWords, Frame, depth_at, pattern_at, InOneSide, HasReadySide}
use Rattle.sound_image.specs.Rules.{NumbersFit, HashesAreOwned}
use Rattle.segment_head.specs.declared.prefix.Prefix.{Prefix}

-- the words are of 64 bits, and the numbers of the shape and of the image are in their ranges
pub record IsNumbered (shape : Shape) (word : ImageWords) : Type 0 where
  pub in_range : IsShape shape
  pub each_fits : (i : ℕ) → word i < 2 ^ 64
  pub numbers_fit : (w : ℕ) → NumbersFit shape word w

-- and each hash has one owner, beside segments that are splitting it off
pub record IsDivided (shape : Shape) (word : ImageWords) : Type 0 where
  pub numbered : IsNumbered shape word
  pub hashes_owned : (w : ℕ) → HashesAreOwned shape word w

-- the prefix is the depth and the pattern of a segment
pub record IsPrefixOf (frame : Frame) (s : ℕ) (prefix : Prefix) : Type 0 where
  pub depth : prefix.depth ≡ depth_at frame s
  pub pattern : prefix.pattern ≡ pattern_at frame s

-- the side link of a segment names a slot
pub record IsNamed (frame : Frame) (s n : ℕ) : Type 0 where
  pub named : frame.link s ≡ link_to n
  pub slot : n < frame.segments

-- a segment has a ready side, and the hash is in its 1-side
pub record IsGivenAway (frame : Frame) (s h : ℕ) : Type 0 where
  pub ready : HasReadySide frame s
  pub in_side : InOneSide frame s h
