-- What views say of all media stays said.
use Rattle.std.specs.Prelude.{◌≢◌, ℕ, ◌<◌, ◌⊎◌, ⊤, List, set}
use Rattle.trace.specs.Events.{Words, with_word}
use Rattle.image_layout.specs.Places.{words_of}
use Rattle.frame_facts.specs.Owners.{HasStructure}
use Rattle.frame_facts.specs.Facts.{Fact, Lives, Current, Rooted, Owns, Lacks, Deep, Begins, Used, Taken, HoldsFact}
use Rattle.frame_facts.specs.Keeping.{KeepsFact}
use Rattle.world.specs.Ground.{Ground, version_of}
use Rattle.world.specs.Views.{View, Has, At}
use Rattle.world.specs.Media.{IsPossible}
use Rattle.world.specs.areas.Areas.{Area, Segment, Allocation, Directory, header_word}
use Rattle.world.specs.areas.Fitting.{Fits, HasGrounds}
use Rattle.world.specs.areas.Rows.{Row, goes_live, frees, IsRow, IsRowIn, HasForRow, areas_by, HasStored}
use Rattle.world.specs.areas.Spared.{HasFenced, AreaChange, SparesAreas}
use Rattle.world.specs.areas.Lasting.{AreSoundMedia}

-- a fact holds beside whatever a cut may leave
abbrev pub IsSaid : Ground → Words → List View → Fact → Type 0
IsSaid site words views fact = (medium : Words) → IsPossible site words views medium → HoldsFact site.shape (version_of site) words fact medium

-- who says that a segment claims hashes has its guard or that of the directory: these end its claims; and who says that a slot is taken has
-- the guard of free slots
abbrev pub MaySay : List Area → Fact → Type 0
MaySay areas (Lives s) = ⊤
MaySay areas (Current s) = ⊤
MaySay areas (Rooted e) = ⊤
MaySay areas (Owns s d p) = Has (Segment s) areas ⊎ Has Directory areas
MaySay areas (Lacks s d p) = ⊤
MaySay areas (Deep f d p) = ⊤
MaySay areas (Begins s h) = ⊤
MaySay areas (Used n) = ⊤
MaySay areas (Taken n) = Has Allocation areas

-- FACTS: each holds beside whatever a cut may leave, and its view may say it
pub record Saying (site : Ground) (words : Words) (views : List View) : Type 0 where
  pub said : (j : ℕ) (v : View) (fact : Fact) → At views j v → Has fact v.facts → IsSaid site words views fact
  pub may : (j : ℕ) (v : View) (fact : Fact) → At views j v → Has fact v.facts → MaySay v.areas fact

-- a store keeps a fact beside a medium, or one with the same structure
abbrev pub KeepsFactIn : Ground → Words → Words → ℕ → ℕ → Fact → Type 0
KeepsFactIn site words medium i x fact = (other : Words) × HasStructure site.shape medium other × KeepsFact site.shape (version_of site) words other i x fact

-- A STORE keeps a fact said that it keeps beside each medium, where the structure stays sound in all
abbrev pub StoresKeepSaid : Type 0
StoresKeepSaid = (site : Ground) (words : Words) (views : List View) (j : ℕ) (v w : View) (i x : ℕ) (fact : Fact) → HasGrounds site words views → AreSoundMedia site words views → At views j v
    → i < words_of site.shape → HasStored site.shape i (words i) x w.areas v w → AreSoundMedia site (with_word words i x) (set views j w)
    → ((medium : Words) → IsPossible site words views medium → KeepsFactIn site words medium i x fact)
    → IsSaid site words views fact → IsSaid site (with_word words i x) (set views j w) fact

-- so do a fence, and a step that leaves all cores
abbrev pub FencesKeepSaid : Type 0
FencesKeepSaid = (site : Ground) (words : Words) (views : List View) (j : ℕ) (v w : View) (fact : Fact) → At views j v → HasFenced w.areas v w
    → IsSaid site words views fact → IsSaid site words (set views j w) fact

abbrev pub SparingStepsKeepSaid : Type 0
SparingStepsKeepSaid = (site : Ground) (words later : Words) (views : List View) (j : ℕ) (v w : View) (change : AreaChange) (fact : Fact) → HasGrounds site words views → AreSoundMedia site words views
    → At views j v → SparesAreas site words views later change v w → IsSaid site words views fact → IsSaid site later (set views j w) fact

-- ---- rows
-- the facts that a row may end: claims of the segment whose side goes live, and that a slot is taken which is freed
abbrev pub IsSpared : Row → ℕ → Fact → Type 0
IsSpared (goes_live p) n (Owns s d q) = s ≢ p
IsSpared (frees p) n fact = fact ≢ Taken n
IsSpared row n fact = ⊤

-- A ROW keeps the facts of all views, but those that it may end, which its holder forgets
abbrev pub RowsKeepSaying : Type 0
RowsKeepSaying = (site : Ground) (words : Words) (views : List View) (j : ℕ) (v w : View) (row : Row) (s x : ℕ) → HasGrounds site words views → Fits site words views
    → AreSoundMedia site words views → At views j v → IsRow site words row s x → ((medium : Words) → IsPossible site words views medium → IsRowIn site medium row s x) → HasForRow site words row s v.areas
    → HasStored site.shape (header_word site.shape s) (words (header_word site.shape s)) x (areas_by row s v.areas) v w
    → ((fact : Fact) → Has fact w.facts → Has fact v.facts × IsSpared row s fact)
    → Saying site words views → Saying site (with_word words (header_word site.shape s) x) (set views j w)
