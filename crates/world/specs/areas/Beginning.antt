-- What a restart leaves: of areas, that nobody has one; of the words, a sound structure and a table, in which each current segment is
-- repaired; and that so begins the invariant.
use Rattle.std.specs.Prelude.{◌≡◌, ◌≢◌, ℕ, ◌<◌, ◌≤◌, List}
use Rattle.trace.specs.Events.{Words, value}
use Rattle.trace.specs.Steps.{HadSinceSettled}
use Rattle.segment_head.specs.HeadWord.{normal, splitting}
use Rattle.image_layout.specs.Places.{words_of}
use Rattle.image_layout.specs.Volatile.{all_words_of}
use Rattle.sound_image.specs.Segments.{frame_of, image_version, state_at}
use Rattle.sound_image.specs.Directory.{VersionIsPast}
use Rattle.frame_facts.specs.Claims.{HasSoundFrame}
use Rattle.frame_facts.specs.Standing.{LocksAreFree, IsTable}
use Rattle.frame_facts.specs.Hits.{find}
use Rattle.world.specs.Ground.{Ground, IsGround, version_of, IsStructured, IsCurrentIn}
use Rattle.world.specs.Views.{View, At}
use Rattle.world.specs.Parts.{total}
use Rattle.world.specs.Invariant.{Holds}
use Rattle.world.specs.World.{World, fresh_view}
use Rattle.world.specs.areas.Areas.{header_word}
use Rattle.world.specs.areas.Asking.{IsInOrder}
use Rattle.world.specs.areas.Fitting.{Fits}
use Rattle.world.specs.areas.Lasting.{Owners, Lasting, AreSoundMedia}
use Rattle.world.specs.areas.Saying.{Saying}
use Rattle.world.specs.areas.Guarding.{Guards}

-- all that is said of areas
pub record AreasStand (site : Ground) (words : Words) (views : List View) : Type 0 where
  pub fits : Fits site words views
  pub sound : AreSoundMedia site words views
  pub owners : Owners site words views
  pub lasting : Lasting site words views
  pub saying : Saying site words views
  pub guards : Guards site words views

-- FRESH VIEWS: over a sound structure in which no current segment is split it is so
abbrev pub FreshViewsStand : Type 0
FreshViewsStand = (site : Ground) (words : Words) (views : List View) → IsGround site → HasSoundFrame site.shape words → ((j : ℕ) (v : View) → At views j v → v ≡ fresh_view v.callers)
    → ((s : ℕ) → IsCurrentIn site words s → state_at (frame_of site.shape words) s ≢ splitting) → AreasStand site words views

-- ---- what a restart leaves of any sound image
-- a segment is repaired: it is NORMAL and in order, and no lock of it is taken
pub record IsRepaired (site : Ground) (words : Words) (s : ℕ) : Type 0 where
  pub normal : state_at (frame_of site.shape words) s ≡ normal
  pub in_order : IsInOrder site words s
  pub free : LocksAreFree site.shape words s

-- THE WORLD IS RESTARTED: a sound structure and a table with the start's pairs, with all its words settled; the words behind the image are
-- 0, so that no change is drawn, the power is on, and nobody has a guard; and nobody has done anything
pub record IsRestarted (site : Ground) (start : Words) (world : World) : Type 0 where
  pub site_is : IsGround site
  pub words_are : world.words ≡ value start world.trace
  pub settled : (i y : ℕ) → i < words_of site.shape → HadSinceSettled start world.trace i y → y ≡ world.words i
  pub structured : IsStructured site world.words
  -- the headers are those of the start
  pub heads : (s : ℕ) → s < site.shape.segments → world.words (header_word site.shape s) ≡ site.front (header_word site.shape s)
  pub table : IsTable site.shape world.words
  pub pairs : (k : ℕ) → find site.shape world.words k ≡ site.start k
  pub behind : (i : ℕ) → words_of site.shape ≤ i → i < all_words_of site.shape → world.words i ≡ 0
  pub fresh : (j : ℕ) (v : View) → At world.views j v → v ≡ fresh_view v.callers
  pub callers : total (λ v. v.callers) world.views ≡ site.callers

-- and each current segment is repaired. Of stale segments, of new sides and of free slots nothing is said: their locks may be taken, records
-- may stand there that others own, a key may stand twice, and notes may be wrong
pub record Begins (site : Ground) (start : Words) (world : World) : Type 0 where
  pub restarted : IsRestarted site start world
  pub repaired : (s : ℕ) → IsCurrentIn site world.words s → IsRepaired site world.words s

-- SO BEGINS the invariant
abbrev pub RestartsBegin : Type 0
RestartsBegin = (site : Ground) (start : Words) (world : World) → Begins site start world → Holds site world.words world.views

-- ---- of an image that was cut, the restart raises the version
-- no header has a version above that of the image before, and the image's version is above that one
pub record IsRaised (site : Ground) (before words : Words) : Type 0 where
  pub past : (s : ℕ) → s < site.shape.segments → VersionIsPast (frame_of site.shape before) s
  pub headers : (s : ℕ) → s < site.shape.segments → words (header_word site.shape s) ≡ before (header_word site.shape s)
  pub raised : image_version (frame_of site.shape before) < version_of site

-- A RAISED VERSION leaves no segment current
abbrev pub RaisedVersionsLeaveNoneCurrent : Type 0
RaisedVersionsLeaveNoneCurrent = (site : Ground) (before words : Words) → IsRaised site before words → (s : ℕ) → IsCurrentIn site words s → ⊥

-- so a restarted world begins whatever its segments have
abbrev pub RaisedVersionsBegin : Type 0
RaisedVersionsBegin = (site : Ground) (start before : Words) (world : World) → IsRestarted site start world → IsRaised site before world.words → Begins site start world

-- ---- of one that was closed
