-- Steps that store to no header: stores to other words, fences, and those that leave all cores and what is loose.
use Rattle.std.specs.Prelude.{◌≡◌, ◌≢◌, ℕ, ◌<◌, ◌⊎◌, ⊤, List, [], ◌∷◌, set}
use Rattle.trace.specs.Events.{Words, with_word}
use Rattle.segment_head.specs.HeadWord.{version_in, free, splitting, HasLiveState}
use Rattle.image_layout.specs.Places.{Shape, words_of}
use Rattle.sound_image.specs.Segments.{frame_of, state_at}
use Rattle.frame_facts.specs.Core.{core}
use Rattle.world.specs.Ground.{Ground, version_of, IsCurrentIn}
use Rattle.world.specs.Views.{View, Has, At, HasLock, IsLoose}
use Rattle.world.specs.Media.{MayLeave}
use Rattle.world.specs.areas.Areas.{Area, Segment, Stale, Side, Free, Whole, Allocation, Directory, header_word, is_side_at, is_whole_at, is_of_segment, is_of_allocation, is_of_directory, all_but}
use Rattle.world.specs.areas.Fitting.{HoldsWord, HoldsAll, IsGuardedSide, LivesOn, IsLivingLock, Fits, HasGrounds}
use Rattle.world.specs.areas.Rows.{HasNoSides, HasStored}

-- A STORE TO A WORD THAT IS NO HEADER keeps it, whoever holds the word: a link, the root, an entry, a word of a bucket
abbrev pub OtherStoresKeepFits : Type 0
OtherStoresKeepFits = (site : Ground) (words : Words) (views : List View) (j : ℕ) (v w : View) (i x : ℕ) → Fits site words views → At views j v
    → i < words_of site.shape → ((s : ℕ) → s < site.shape.segments → i ≢ header_word site.shape s) → HasStored site.shape i (words i) x v.areas v w
    → Fits site (with_word words i x) (set views j w)

-- the view of who fenced: nothing of it is flushed and not settled
pub record HasFenced (areas : List Area) (v w : View) : Type 0 where
  pub held : w.held ≡ v.held
  pub dirty : w.dirty ≡ v.dirty
  pub flushed : w.flushed ≡ []
  pub areas_are : w.areas ≡ areas

-- what is not settled lies in words that its view holds
abbrev pub LooseIsHeld : Shape → List View → Type 0
LooseIsHeld shape views = (c : ℕ) (u : View) (i x : ℕ) → At views c u → IsLoose u (i, x) → HoldsWord shape u i

-- A FENCE keeps it, where the newest header of each side that the stepper has after is not live; with the fence that settles the
-- header of a side as a live one, the side is given up
abbrev pub FencesKeepFits : Type 0
FencesKeepFits = (site : Ground) (words : Words) (views : List View) (j : ℕ) (v w : View) (areas : List Area) → HasGrounds site words views → Fits site words views
    → At views j v → LooseIsHeld site.shape views → (areas ≡ v.areas) ⊎ ((n : ℕ) × (areas ≡ all_but (is_side_at n) v.areas)) → HasFenced areas v w
    → ((n : ℕ) → Has (Side n) w.areas → HasLiveState (words (header_word site.shape n)) → ⊥)
    → Fits site words (set views j w)

-- WHAT A VIEW HAS NOT SETTLED may be left after any step of another: nobody's flush or fence settles it
abbrev pub ForeignWordsAreSpared : Type 0
ForeignWordsAreSpared = (site : Ground) (later : Words) (views : List View) (j c : ℕ) (u w : View) (i x : ℕ) → At views c u → c ≢ j → IsLoose u (i, x)
    → MayLeave site later (set views j w) i x

-- HOW THE AREAS OF A VIEW CHANGE where no header is stored and nothing is settled
pub data AreaChange : Type 0 where
  stays : AreaChange
  -- one more: a guard was taken, a header was found so, or the last lock of a guarded segment was taken
  adds : (area : Area) → AreaChange
  -- a segment is not whole any more
  leaves : (slot : ℕ) → AreaChange
  -- a slot in which no segment lives is a side no more
  gives_side : (slot : ℕ) → AreaChange
  -- a guard is given back, with what hangs on it
  gives_segment : (slot : ℕ) → AreaChange
  gives_allocation : AreaChange
  gives_directory : AreaChange

abbrev pub areas_after : AreaChange → List Area → List Area
areas_after stays areas = areas
areas_after (adds a) areas = a ∷ areas
areas_after (leaves s) areas = all_but (is_whole_at s) areas
areas_after (gives_side n) areas = all_but (is_side_at n) areas
areas_after (gives_segment s) areas = all_but (is_of_segment s) areas
areas_after gives_allocation areas = all_but is_of_allocation areas
areas_after gives_directory areas = all_but is_of_directory areas

module _ (site : Ground) (words : Words) (views : List View) where
  -- nobody has an area
  abbrev pub NobodyHas : Area → Type 0
  NobodyHas a = (c : ℕ) (u : View) → At views c u → Has a u.areas → ⊥

  -- WHAT AN AREA MUST FIND to be added to those of a view
  abbrev pub MayAdd : Area → View → Type 0
  MayAdd (Segment s) v = LivesOn site words views s × NobodyHas (Segment s)
  MayAdd (Stale s) v = Has (Segment s) v.areas × (version_in (words (header_word site.shape s)) ≢ version_of site)
  MayAdd (Side n) v = IsGuardedSide (frame_of site.shape words) v.areas n × (HasLiveState (words (header_word site.shape n)) → ⊥)
  MayAdd (Free n) v = Has Allocation v.areas × (n < site.shape.segments) × (state_at (frame_of site.shape words) n ≡ free)
  MayAdd (Whole s) v = Has (Segment s) v.areas × HoldsAll site.shape v s
  MayAdd Allocation v = NobodyHas Allocation
  MayAdd Directory v = NobodyHas Directory

  -- a segment that is split is not left, if it is current; a side is given up in which no segment lives; and no guard of a segment goes back before
  -- each side was given up
  abbrev pub IsNotSplit : ℕ → Type 0
  IsNotSplit s = IsCurrentIn site words s → state_at (frame_of site.shape words) s ≡ splitting → ⊥

  abbrev pub AreasMayChange : AreaChange → View → Type 0
  AreasMayChange stays v = ⊤
  AreasMayChange (adds a) v = MayAdd a v
  AreasMayChange (leaves s) v = IsNotSplit s
  AreasMayChange (gives_side n) v = HasLiveState (words (header_word site.shape n)) → ⊥
  AreasMayChange (gives_segment s) v = IsNotSplit s × HasNoSides v.areas
  AreasMayChange gives_allocation v = ⊤
  AreasMayChange gives_directory v = ⊤

  -- a step leaves the cores of the image, and what is loose in the stepping view: so do loads, flushes, and stores to locks and guards. Each
  -- lock that it adds is of a living segment, and it takes none of a segment that the view goes on having whole
  pub record SparesAreas (later : Words) (change : AreaChange) (v w : View) : Type 0 where
    pub cores : (i : ℕ) → i < words_of site.shape → core site.shape later i ≡ core site.shape words i
    pub no_more : (p : ℕ × ℕ) → IsLoose w p → IsLoose v p
    pub no_less : (p : ℕ × ℕ) → IsLoose v p → IsLoose w p
    pub locks : (lock : ℕ) → HasLock w.held lock → HasLock v.held lock ⊎ IsLivingLock site words views lock
    pub wholes : (s : ℕ) → Has (Whole s) w.areas → HoldsAll site.shape v s → HoldsAll site.shape w s
    pub areas_are : w.areas ≡ areas_after change v.areas
    pub may : AreasMayChange change v

-- SUCH A STEP keeps it
abbrev pub SparingStepsKeepFits : Type 0
SparingStepsKeepFits = (site : Ground) (words later : Words) (views : List View) (j : ℕ) (v w : View) (change : AreaChange) → Fits site words views → At views j v
    → SparesAreas site words views later change v w → Fits site later (set views j w)
