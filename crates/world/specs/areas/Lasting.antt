-- Owners, live segments and taken slots in whatever a cut may leave, beside the newest words.
use Rattle.std.specs.Prelude.{◌≡◌, ◌≢◌, ℕ, ◌<◌, ◌⊎◌, Some, List, set}
use Rattle.trace.specs.Events.{Words, with_word}
use Rattle.segment_head.specs.HeadWord.{state_in, free, normal}
use Rattle.image_layout.specs.Places.{words_of, bucket_at, buckets}
use Rattle.sound_image.specs.Segments.{frame_of, state_at}
use Rattle.frame_facts.specs.Claims.{HasSoundFrame}
use Rattle.frame_facts.specs.Media.{IsSteady}
use Rattle.frame_facts.specs.Stores.{GoesOn}
use Rattle.frame_facts.specs.Owners.{owner_of}
use Rattle.frame_facts.specs.Facts.{IsLiveSlot}
use Rattle.world.specs.Ground.{Ground}
use Rattle.world.specs.Views.{View, Has, At, HasLock}
use Rattle.world.specs.Media.{IsPossible}
use Rattle.world.specs.areas.Areas.{Area, Side, Allocation, header_word, is_side_at, all_but}
use Rattle.world.specs.areas.Fitting.{LivesOn, Fits, HasGrounds}
use Rattle.world.specs.areas.Rows.{Row, IsRow, IsRowIn, HasForRow, areas_by, HasStored}
use Rattle.world.specs.areas.Spared.{HasFenced, LooseIsHeld, AreaChange, SparesAreas}

-- some view has a slot as a side that is not settled
abbrev pub IsHeldSide : List View → ℕ → Type 0
IsHeldSide views n = (j : ℕ) × (v : View) × At views j v × Has (Side n) v.areas

-- a view took it, and has the guard of free slots still
abbrev pub IsBeingTaken : List View → ℕ → Type 0
IsBeingTaken views n = (j : ℕ) × (v : View) × At views j v × Has Allocation v.areas × Has (Side n) v.areas

module _ (site : Ground) (words : Words) (views : List View) where
  -- OWNERS: in whatever a cut may leave a hash has the owner that it has now, or it is now owned by a side that is not settled
  pub record Owners : Type 0 where
    pub same : (medium : Words) → IsPossible site words views medium → (h : ℕ) → (owner_of site.shape medium h ≡ owner_of site.shape words h)
        ⊎ ((n : ℕ) × (owner_of site.shape words h ≡ Some n) × IsHeldSide views n)

  -- LIVE SEGMENTS: what is live in whatever a cut may leave is live now, begins now at the same hash, and is no less deep now; and
  -- what is live now lives there, or is a side that is not settled
  pub record Lasting : Type 0 where
    pub steady : (medium : Words) → IsPossible site words views medium → IsSteady (frame_of site.shape medium) (frame_of site.shape words)
    pub living : (s : ℕ) → IsLiveSlot (frame_of site.shape words) s → LivesOn site words views s ⊎ IsHeldSide views s

  -- a slot is taken in whatever a cut may leave
  abbrev pub IsTakenInMedia : ℕ → Type 0
  IsTakenInMedia n = (medium : Words) → IsPossible site words views medium → state_in (medium (header_word site.shape n)) ≢ free

  -- TAKEN SLOTS: a slot that is taken is so in whatever a cut may leave, or it is being taken
  abbrev pub SettledSlots : Type 0
  SettledSlots = (n : ℕ) → n < site.shape.segments → state_in (words (header_word site.shape n)) ≢ free → IsBeingTaken views n ⊎ IsTakenInMedia n

  -- the structure is sound in whatever a cut may leave
  abbrev pub AreSoundMedia : Type 0
  AreSoundMedia = (medium : Words) → IsPossible site words views medium → HasSoundFrame site.shape medium

-- THE OWNER IN EACH MEDIUM, of a segment that lives on: so for who holds one of its locks
abbrev pub OwnersLast : Type 0
OwnersLast = (site : Ground) (words : Words) (views : List View) → Fits site words views → Owners site words views
    → (s h : ℕ) → LivesOn site words views s → owner_of site.shape words h ≡ Some s → (medium : Words) → IsPossible site words views medium
    → owner_of site.shape medium h ≡ Some s

abbrev pub LockedOwnersLast : Type 0
LockedOwnersLast = (site : Ground) (words : Words) (views : List View) → Fits site words views → Owners site words views
    → (j : ℕ) (v : View) (s b h : ℕ) → At views j v → b < buckets → HasLock v.held (bucket_at site.shape s b) → owner_of site.shape words h ≡ Some s
    → (medium : Words) → IsPossible site words views medium → owner_of site.shape medium h ≡ Some s

-- ---- what rows keep
-- a frame that is sound, each of whose live segments stays so: of the newest words and of each medium in which a row is such a store
abbrev pub RowsKeepFrames : Type 0
RowsKeepFrames = (site : Ground) (words medium : Words) (views : List View) (row : Row) (s x : ℕ) → HasGrounds site words views → HasSoundFrame site.shape medium → IsRow site medium row s x
    → GoesOn site.shape.depth (frame_of site.shape medium) (frame_of site.shape (with_word medium (header_word site.shape s) x))

-- owners: what a row must find it finds in each medium
abbrev pub RowsKeepOwners : Type 0
RowsKeepOwners = (site : Ground) (words : Words) (views : List View) (j : ℕ) (v w : View) (row : Row) (s x : ℕ) → HasGrounds site words views → AreSoundMedia site words views
    → At views j v → IsRow site words row s x → ((medium : Words) → IsPossible site words views medium → IsRowIn site medium row s x) → HasForRow site words row s v.areas
    → HasStored site.shape (header_word site.shape s) (words (header_word site.shape s)) x (areas_by row s v.areas) v w
    → Owners site words views → Owners site (with_word words (header_word site.shape s) x) (set views j w)

abbrev pub RowsKeepLasting : Type 0
RowsKeepLasting = (site : Ground) (words : Words) (views : List View) (j : ℕ) (v w : View) (row : Row) (s x : ℕ) → HasGrounds site words views → Fits site words views
    → At views j v → IsRow site words row s x → HasForRow site words row s v.areas
    → HasStored site.shape (header_word site.shape s) (words (header_word site.shape s)) x (areas_by row s v.areas) v w
    → Lasting site words views → Lasting site (with_word words (header_word site.shape s) x) (set views j w)

-- ---- what other steps keep
abbrev pub OtherStoresKeepLasting : Type 0
OtherStoresKeepLasting = (site : Ground) (words : Words) (views : List View) (j : ℕ) (v w : View) (i x : ℕ) → At views j v → i < words_of site.shape
    → ((s : ℕ) → s < site.shape.segments → i ≢ header_word site.shape s) → HasStored site.shape i (words i) x v.areas v w
    → (Owners site words views → Owners site (with_word words i x) (set views j w)) × (Lasting site words views → Lasting site (with_word words i x) (set views j w))

abbrev pub SparingStepsKeepLasting : Type 0
SparingStepsKeepLasting = (site : Ground) (words later : Words) (views : List View) (j : ℕ) (v w : View) (change : AreaChange) → At views j v
    → SparesAreas site words views later change v w
    → (Owners site words views → Owners site later (set views j w)) × (Lasting site words views → Lasting site later (set views j w))

-- a fence gives up nothing, or a side whose newest header is NORMAL and was flushed
abbrev pub GivesUp : Ground → Words → View → List Area → Type 0
GivesUp site words v areas = (areas ≡ v.areas)
    ⊎ ((n : ℕ) × (areas ≡ all_but (is_side_at n) v.areas) × Has (Side n) v.areas × (state_at (frame_of site.shape words) n ≡ normal)
    × ((y : ℕ) → Has (header_word site.shape n, y) v.dirty → ⊥))

abbrev pub FencesKeepLasting : Type 0
FencesKeepLasting = (site : Ground) (words : Words) (views : List View) (j : ℕ) (v w : View) (areas : List Area) → HasGrounds site words views → Fits site words views
    → AreSoundMedia site words views → At views j v → LooseIsHeld site.shape views → GivesUp site words v areas → HasFenced areas v w
    → (Owners site words views → Owners site words (set views j w)) × (Lasting site words views → Lasting site words (set views j w))
