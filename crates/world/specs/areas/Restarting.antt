-- A restart of any sound image. Of an image that was closed it keeps the version; of any other it raises it, and where there is none above
-- it sets the version bytes of all headers to 0 before. Of the marker nothing is asked here. So begins the invariant.
use Rattle.std.specs.Prelude.{◌≡◌, ◌≢◌, ℕ, ◌<◌, ◌⊎◌, List, slice_index}
use Rattle.trace.specs.Events.{Words, value}
use Rattle.trace.specs.Steps.{HadSinceSettled}
use Rattle.segment_head.specs.HeadWord.{version_in, state_in, depth_in, pattern_in}
use Rattle.image_layout.specs.Places.{Shape, root_word, state_word, words_of, block}
use Rattle.sound_image.specs.Segments.{frame_of, image_version, IsClean}
use Rattle.sound_image.specs.Image.{IsSoundImage}
use Rattle.frame_facts.specs.Hits.{find}
use Rattle.world.specs.Ground.{Ground, callers_bound}
use Rattle.world.specs.Views.{View, At}
use Rattle.world.specs.Parts.{total}
use Rattle.world.specs.World.{World, fresh_view}
use Rattle.world.specs.areas.Areas.{header_word}
use Rattle.world.specs.areas.Beginning.{Begins}

-- two headers differ in the version byte at most
pub record SameButVersion (x y : ℕ) : Type 0 where
  pub state : state_in x ≡ state_in y
  pub depth : depth_in x ≡ depth_in y
  pub pattern : pattern_in x ≡ pattern_in y

module _ (shape : Shape) (image words : Words) where
  -- an image that was closed keeps its version, and each header
  pub record KeepsVersion : Type 0 where
    pub clean : IsClean (frame_of shape image)
    pub version : image_version (frame_of shape words) ≡ image_version (frame_of shape image)
    pub headers : (s : ℕ) → s < shape.segments → words (header_word shape s) ≡ image (header_word shape s)

  -- of any other the version is above that of each header
  abbrev pub RaisesVersion : Type 0
  RaisesVersion = (s : ℕ) → s < shape.segments → version_in (words (header_word shape s)) < image_version (frame_of shape words)

  -- THE WORDS THAT A RESTART LEAVES of those of an image
  pub record IsLeftOf : Type 0 where
    pub same : (i : ℕ) → i ≢ state_word → ((s : ℕ) → s < shape.segments → i ≢ header_word shape s) → words i ≡ image i
    pub heads : (s : ℕ) → s < shape.segments → SameButVersion (words (header_word shape s)) (image (header_word shape s))
    pub version : KeepsVersion ⊎ RaisesVersion

-- THE WORLD IS THAT OF A RESTART of an image: all words are settled, each key starts with what it has in the image, and nobody has done
-- anything
pub record IsRestartOf (site : Ground) (image : List ℕ) (world : World) : Type 0 where
  pub sound : IsSoundImage site.shape image
  pub few : site.callers < callers_bound
  pub words_are : world.words ≡ value (slice_index image) world.trace
  pub settled : (i y : ℕ) → i < words_of site.shape → HadSinceSettled (slice_index image) world.trace i y → y ≡ world.words i
  pub left : IsLeftOf site.shape (slice_index image) world.words
  pub front : (i : ℕ) → i < block → i ≢ root_word → world.words i ≡ site.front i
  pub heads : (s : ℕ) → s < site.shape.segments → world.words (header_word site.shape s) ≡ site.front (header_word site.shape s)
  pub pairs : (k : ℕ) → find site.shape (slice_index image) k ≡ site.start k
  pub fresh : (j : ℕ) (v : View) → At world.views j v → v ≡ fresh_view v.callers
  pub callers : total (λ v. v.callers) world.views ≡ site.callers

-- A RESTART OF ANY SOUND IMAGE begins the invariant
abbrev pub SoundImagesBegin : Type 0
SoundImagesBegin = (site : Ground) (image : List ℕ) (world : World) → IsRestartOf site image world → Begins site (slice_index image) world
