-- How headers move: for each row what is stored, what its holder must have, and which areas it has after. And the stores to other words.
use Rattle.std.specs.Prelude.{◌≡◌, ◌≢◌, ℕ, ◌<◌, List, ◌∷◌, set}
use Rattle.trace.specs.Events.{Words, with_word}
use Rattle.segment_head.specs.HeadWord.{version_in, depth_in, pattern_in, free, normal, splitting, link_to}
use Rattle.image_layout.specs.Places.{Shape}
use Rattle.sound_image.specs.Segments.{Frame, frame_of, state_at, side_depth_at, side_pattern_at}
use Rattle.frame_facts.specs.Stores.{TakesSlot, FreesSlot, BeginsSplit, GoesLive, EndsSplit, DropsSplit, Renews}
use Rattle.frame_facts.specs.Owners.{HasStructure}
use Rattle.world.specs.Ground.{Ground, version_of, IsCurrentIn}
use Rattle.world.specs.Views.{View, Has, At, HasLock}
use Rattle.world.specs.Kinds.{loosened}
use Rattle.world.specs.areas.Areas.{Area, Segment, Stale, Side, Free, Whole, Allocation, Directory, header_word, is_side_at, is_stale_at, all_but}
use Rattle.world.specs.areas.Fitting.{HoldsWord, IsGuardedSide, LivesOn, MayStayDead, IsLivingLock, HoldsAll, Fits, HasGrounds}

-- HOW A HEADER MOVES
pub data Row : Type 0 where
  -- NORMAL to SPLITTING, with the slot of the side to be
  marks : (side : ℕ) → Row
  -- FREE to NEW, for the 1-side of a segment
  news : (parent : ℕ) → Row
  -- NEW to NORMAL, of the side of a segment: the one store that moves owners
  goes_live : (parent : ℕ) → Row
  -- SPLITTING to NORMAL, one deeper
  finishes : Row
  -- SPLITTING without a ready side to NORMAL, as deep as before
  unmarks : Row
  -- NEW to FREE, of the side of a segment that has not the image's version
  frees : (parent : ℕ) → Row
  -- the image's version, of a normal segment
  renews : Row

-- no side is held: each was given up
abbrev pub HasNoSides : List Area → Type 0
HasNoSides areas = (n : ℕ) → Has (Side n) areas → ⊥

module _ (site : Ground) (words : Words) where
  abbrev now : Frame
  now = frame_of site.shape words

  -- the header of slot s has the version that x has
  abbrev pub HasSameVersion : ℕ → ℕ → Type 0
  HasSameVersion s x = version_in x ≡ version_in (words (header_word site.shape s))

  -- slot s is what segment p, which is splitting, has linked, and x has the 1-side of p
  pub record IsSideOf (p s x : ℕ) : Type 0 where
    pub slot : p < site.shape.segments
    pub splits : state_at now p ≡ splitting
    pub linked : now.link p ≡ link_to s
    pub depth : depth_in x ≡ side_depth_at now p
    pub pattern : pattern_in x ≡ side_pattern_at now p

  -- WHAT IS STORED: x to the header word of slot s, where the newest words are these
  abbrev pub IsRow : Row → ℕ → ℕ → Type 0
  IsRow (marks n) s x = BeginsSplit now s x × (now.link s ≡ link_to n) × HasSameVersion s x
  IsRow (news p) s x = TakesSlot now site.shape.depth s x × IsSideOf p s x × (version_in x ≡ version_of site)
  IsRow (goes_live p) s x = GoesLive now p s x × (version_in x ≡ version_of site)
  IsRow finishes s x = EndsSplit now s x × HasSameVersion s x
  IsRow unmarks s x = DropsSplit now s x × HasSameVersion s x
  IsRow (frees p) s x = FreesSlot now s x × IsSideOf p s (now.header s) × (version_in (now.header p) ≢ version_of site)
  IsRow renews s x = Renews now s x × (state_at now s ≡ normal) × (version_in x ≡ version_of site)

  -- WHAT ITS HOLDER HAS
  abbrev pub HasForRow : Row → ℕ → List Area → Type 0
  HasForRow (marks n) s areas = Has (Whole s) areas × Has (Free n) areas
  HasForRow (news p) s areas = Has (Free s) areas × Has (Whole p) areas
  HasForRow (goes_live p) s areas = Has (Side s) areas × Has (Whole p) areas × Has Directory areas
  HasForRow finishes s areas = Has (Segment s) areas × (IsCurrentIn site words s → Has (Whole s) areas) × HasNoSides areas
  HasForRow unmarks s areas = Has (Stale s) areas × HasNoSides areas
  HasForRow (frees p) s areas = Has (Side s) areas × Has Allocation areas × Has (Stale p) areas
  HasForRow renews s areas = Has (Stale s) areas

-- A ROW IN A MEDIUM: in one with the same structure, since a view knows words whole of which a medium has the cores alone
abbrev pub IsRowIn : Ground → Words → Row → ℕ → ℕ → Type 0
IsRowIn site medium row s x = (other : Words) × HasStructure site.shape medium other × IsRow site other row s x

-- and which areas it has after: a slot that was free is a side, a side is free again, and a segment of the image's version is not
-- stale, so that others may lock its buckets
abbrev pub areas_by : Row → ℕ → List Area → List Area
areas_by (marks n) s areas = areas
areas_by (news p) s areas = Side s ∷ all_but (is_side_at s) areas
areas_by (goes_live p) s areas = areas
areas_by finishes s areas = areas
areas_by unmarks s areas = areas
areas_by (frees p) s areas = Free s ∷ all_but (is_side_at s) areas
areas_by renews s areas = all_but (is_stale_at s) areas

-- the view of who stored x to word i, where that had been `old`: the locks are the same, and the word is loose if its core changed
pub record HasStored (shape : Shape) (i old x : ℕ) (areas : List Area) (v w : View) : Type 0 where
  pub held : w.held ≡ v.held
  pub dirty : w.dirty ≡ loosened shape i old x v.dirty
  pub flushed : w.flushed ≡ v.flushed
  pub areas_are : w.areas ≡ areas

-- WHAT IS SAID OF THE LOCKS AND AREAS of all views but that of one seat
pub record OthersFit (site : Ground) (words : Words) (views : List View) (j : ℕ) : Type 0 where
  pub lock : (c : ℕ) (u : View) (lock : ℕ) → c ≢ j → At views c u → HasLock u.held lock → IsLivingLock site words views lock
  pub segment : (c : ℕ) (u : View) (s : ℕ) → c ≢ j → At views c u → Has (Segment s) u.areas → LivesOn site words views s
  pub stale : (c : ℕ) (u : View) (s : ℕ) → c ≢ j → At views c u → Has (Stale s) u.areas → Has (Segment s) u.areas × (version_in (words (header_word site.shape s)) ≢ version_of site)
  pub side : (c : ℕ) (u : View) (n : ℕ) → c ≢ j → At views c u → Has (Side n) u.areas → IsGuardedSide (frame_of site.shape words) u.areas n × MayStayDead site words views n
  pub free_slot : (c : ℕ) (u : View) (n : ℕ) → c ≢ j → At views c u → Has (Free n) u.areas
      → Has Allocation u.areas × (n < site.shape.segments) × (state_at (frame_of site.shape words) n ≡ free)
  pub whole : (c : ℕ) (u : View) (s : ℕ) → c ≢ j → At views c u → Has (Whole s) u.areas → Has (Segment s) u.areas × HoldsAll site.shape u s

-- A STORE TO A HELD WORD spares all others, where no segment ceases to be current or to live on
abbrev pub StoresSpareOthers : Type 0
StoresSpareOthers = (site : Ground) (words : Words) (views : List View) (j : ℕ) (v w : View) (i x : ℕ) → HasGrounds site words views → Fits site words views
    → At views j v → HoldsWord site.shape v i → HasStored site.shape i (words i) x w.areas v w
    → ((s : ℕ) → IsCurrentIn site words s → IsCurrentIn site (with_word words i x) s)
    → ((s : ℕ) → LivesOn site words views s → LivesOn site (with_word words i x) (set views j w) s)
    → OthersFit site (with_word words i x) (set views j w) j

-- A ROW keeps it
abbrev pub RowsKeepFits : Type 0
RowsKeepFits = (site : Ground) (words : Words) (views : List View) (j : ℕ) (v w : View) (row : Row) (s x : ℕ) → HasGrounds site words views → Fits site words views
    → At views j v → IsRow site words row s x → HasForRow site words row s v.areas
    → HasStored site.shape (header_word site.shape s) (words (header_word site.shape s)) x (areas_by row s v.areas) v w
    → Fits site (with_word words (header_word site.shape s) x) (set views j w)
