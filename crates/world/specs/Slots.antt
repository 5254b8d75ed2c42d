-- Which segments stay current at a step, and which slots stay taken; and what is at rest where nobody has areas: where each live segment has the
-- image's version, and where segments may be stale.
use Rattle.std.specs.Prelude.{◌≡◌, ◌≢◌, ℕ, ◌<◌, ◌⊎◌, List, []}
use Rattle.trace.specs.Events.{Words}
use Rattle.map_model.specs.declared.call.Call.{Call}
use Rattle.map_model.specs.declared.entry.Reply.TheVariants.{Full}
use Rattle.segment_head.specs.HeadWord.{version_in, state_in, free, splitting}
use Rattle.image_layout.specs.Volatile.{free_guard}
use Rattle.sound_image.specs.Segments.{frame_of}
use Rattle.frame_facts.specs.Facts.{IsLiveSlot, IsUsedSlot}
use Rattle.world.specs.Ground.{Ground, version_of, IsCurrentIn}
use Rattle.world.specs.Views.{View, Has, At}
use Rattle.world.specs.Kinds.{refuses}
use Rattle.world.specs.Invariant.{Holds}
use Rattle.world.specs.areas.Areas.{Segment, Whole, header_word}
use Rattle.world.specs.areas.Lasting.{IsTakenInMedia}
use Rattle.world.specs.areas.Rows.{news, frees, renews}
use Rattle.world.specs.areas.Kinds.{Guard, guard_word, HasGuard, area_of, moves}
use Rattle.world.specs.areas.Beginning.{IsRepaired}
use Rattle.world.specs.StepKinds.{StepKind, of_call, of_structure, MayTake}
use Rattle.world.specs.StepLaws.{words_of_step, views_of_step}

-- each live segment has the image's version
abbrev pub AllCurrent : Ground → Words → Type 0
AllCurrent site words = (s : ℕ) → IsLiveSlot (frame_of site.shape words) s → version_in (words (header_word site.shape s)) ≡ version_of site

-- A TAKEN SLOT STAYS TAKEN, whatever number the caller of the step has: a slot is freed for a segment alone that has another version
abbrev pub SlotsStayTaken : Type 0
SlotsStayTaken = (site : Ground) (words : Words) (views : List View) (j : ℕ) (v : View) (kind : StepKind) (number : ℕ) → Holds site words views → At views j v → MayTake site kind v
    → AllCurrent site words → (s : ℕ) → s < site.shape.segments → state_in (words (header_word site.shape s)) ≢ free
    → state_in (words_of_step site kind number words (header_word site.shape s)) ≢ free

-- and so it does in whatever a cut may leave
abbrev pub TakenStays : Type 0
TakenStays = (site : Ground) (words : Words) (views : List View) (j : ℕ) (v : View) (kind : StepKind) (number : ℕ) → Holds site words views → At views j v → MayTake site kind v
    → AllCurrent site words → (s : ℕ) → s < site.shape.segments → IsTakenInMedia site words views s
    → IsTakenInMedia site (words_of_step site kind number words) (views_of_step site kind j v words views) s

-- WHO TELLS THAT NO SLOT IS FREE finds each taken in whatever a cut may leave
abbrev pub FullsAreTaken : Type 0
FullsAreTaken = (site : Ground) (words : Words) (views : List View) (j : ℕ) (v : View) (call : Call) → Holds site words views → At views j v
    → MayTake site (of_call (refuses call Full)) v → (s : ℕ) → s < site.shape.segments → IsTakenInMedia site words views s

-- AND EACH LIVE SEGMENT HAS THE IMAGE'S VERSION after the step
abbrev pub StaysCurrent : Type 0
StaysCurrent = (site : Ground) (words : Words) (views : List View) (j : ℕ) (v : View) (kind : StepKind) (number : ℕ) → Holds site words views → At views j v → MayTake site kind v
    → AllCurrent site words → AllCurrent site (words_of_step site kind number words)

-- A NEW SIDE takes a slot that was free
abbrev pub NewSlotsWereFree : Type 0
NewSlotsWereFree = (site : Ground) (words : Words) (views : List View) (j : ℕ) (v : View) (p s x : ℕ) → Holds site words views → At views j v
    → MayTake site (of_structure (moves (news p) s x)) v
    → (s < site.shape.segments) × (state_in (words (header_word site.shape s)) ≡ free) × (state_in x ≢ free)

-- no view but that of seat j has areas
abbrev pub OthersHaveNoAreas : ℕ → List View → Type 0
OthersHaveNoAreas j views = (i : ℕ) (u : View) → i ≢ j → At views i u → u.areas ≡ []

-- WHERE NO VIEW HAS AREAS no guard is taken, and no segment is split
pub record RestsAreQuiet : Type 0 where
  pub guards : (site : Ground) (words : Words) (views : List View) → Holds site words views → ((i : ℕ) (u : View) → At views i u → u.areas ≡ [])
      → (guard : Guard) → HasGuard site.shape guard → words (guard_word site.shape guard) ≡ free_guard
  pub splits : (site : Ground) (words : Words) (views : List View) → Holds site words views → ((i : ℕ) (u : View) → At views i u → u.areas ≡ []) → AllCurrent site words
      → (s : ℕ) → s < site.shape.segments → state_in (words (header_word site.shape s)) ≢ splitting

-- WHERE NO OTHER VIEW HAS AREAS a guard that is taken is that of this view, and a segment that is split is whole in it
pub record OthersAreQuiet : Type 0 where
  pub guards : (site : Ground) (words : Words) (views : List View) (j : ℕ) (v : View) → Holds site words views → At views j v → OthersHaveNoAreas j views
      → (guard : Guard) → HasGuard site.shape guard → words (guard_word site.shape guard) ≢ free_guard → Has (area_of guard) v.areas
  pub splits : (site : Ground) (words : Words) (views : List View) (j : ℕ) (v : View) → Holds site words views → At views j v → OthersHaveNoAreas j views → AllCurrent site words
      → (s : ℕ) → s < site.shape.segments → state_in (words (header_word site.shape s)) ≡ splitting → Has (Segment s) v.areas × Has (Whole s) v.areas

-- ---- WHERE SEGMENTS MAY BE STALE
-- a segment is stale: it lives, and has not the image's version
pub record IsStaleSlot (site : Ground) (words : Words) (s : ℕ) : Type 0 where
  pub live : IsLiveSlot (frame_of site.shape words) s
  pub old : version_in (words (header_word site.shape s)) ≢ version_of site

-- at each step that a caller may take, whatever number it has: of the words before, and of those after
abbrev pub AtEachStep : (Ground → StepKind → Words → Words → Type 0) → Type 0
AtEachStep Is = (site : Ground) (words : Words) (views : List View) (j : ℕ) (v : View) (kind : StepKind) (number : ℕ) → Holds site words views → At views j v → MayTake site kind v
    → Is site kind words (words_of_step site kind number words)

-- WHAT IS CURRENT STAYS CURRENT
abbrev pub CurrentStays : Type 0
CurrentStays = AtEachStep (λ site kind words later. (s : ℕ) → IsCurrentIn site words s → IsCurrentIn site later s)

-- NOTHING GROWS STALE: a segment that is stale after a step was so before
abbrev pub NothingGrowsStale : Type 0
NothingGrowsStale = AtEachStep (λ site kind words later. (s : ℕ) → IsStaleSlot site later s → IsStaleSlot site words s)

-- A STALE SEGMENT stays stale until it is renewed
abbrev pub StaleStays : Type 0
StaleStays = AtEachStep (λ site kind words later. (s : ℕ) → IsStaleSlot site words s → IsStaleSlot site later s ⊎ ((x : ℕ) × (kind ≡ of_structure (moves renews s x))))

-- and one that is renewed was stale, and is current
abbrev pub RenewedAreCurrent : Type 0
RenewedAreCurrent = (site : Ground) (words : Words) (views : List View) (j : ℕ) (v : View) (s x number : ℕ) → Holds site words views → At views j v
    → MayTake site (of_structure (moves renews s x)) v
    → IsStaleSlot site words s × IsCurrentIn site (words_of_step site (of_structure (moves renews s x)) number words) s

-- WHAT BECOMES CURRENT IS REPAIRED: a segment that was stale and is current after a step is normal then, each record in it is its own, each key stands
-- once, the notes of its homes are exact, and no lock of it is taken
abbrev pub CurrentIsRepaired : Type 0
CurrentIsRepaired = AtEachStep (λ site kind words later. (s : ℕ) → IsStaleSlot site words s → IsCurrentIn site later s → IsRepaired site later s)

-- a slot is used: its segment is live, or is the new side of a splitting segment of the image's version
abbrev pub IsUsedIn : Ground → Words → ℕ → Type 0
IsUsedIn site words s = IsUsedSlot (frame_of site.shape words) (version_of site) s

-- WHAT IS USED STAYS USED
abbrev pub UsedStays : Type 0
UsedStays = AtEachStep (λ site kind words later. (s : ℕ) → IsUsedIn site words s → IsUsedIn site later s)

-- SLOTS ARE FREED BY REPAIRS ALONE: a slot that is free after a step and was not so before is the side of a stale segment, freed by this step
abbrev pub FreedByRepairs : Type 0
FreedByRepairs = AtEachStep (λ site kind words later. (s : ℕ) → s < site.shape.segments → state_in (words (header_word site.shape s)) ≢ free → state_in (later (header_word site.shape s)) ≡ free
    → (p : ℕ) × (x : ℕ) × (kind ≡ of_structure (moves (frees p) s x)) × IsStaleSlot site words p)

-- A SLOT THAT WAS FREE AT THE START and is taken is used, so it stays taken
abbrev pub FreeSlotsStayTaken : Type 0
FreeSlotsStayTaken = AtEachStep (λ site kind words later. (s : ℕ) → s < site.shape.segments → state_in (site.front (header_word site.shape s)) ≡ free → state_in (words (header_word site.shape s)) ≢ free
    → state_in (later (header_word site.shape s)) ≢ free)

-- and so it does in whatever a cut may leave
abbrev pub FreeSlotsStayTakenInMedia : Type 0
FreeSlotsStayTakenInMedia = (site : Ground) (words : Words) (views : List View) (j : ℕ) (v : View) (kind : StepKind) (number : ℕ) → Holds site words views → At views j v → MayTake site kind v
    → (s : ℕ) → s < site.shape.segments → state_in (site.front (header_word site.shape s)) ≡ free → IsTakenInMedia site words views s
    → IsTakenInMedia site (words_of_step site kind number words) (views_of_step site kind j v words views) s

-- WHERE NO VIEW HAS AREAS no current segment is split; and where no other view has areas, one that is is whole in this view
pub record CurrentSegmentsRest : Type 0 where
  pub nobody : (site : Ground) (words : Words) (views : List View) → Holds site words views → ((i : ℕ) (u : View) → At views i u → u.areas ≡ [])
      → (s : ℕ) → IsCurrentIn site words s → state_in (words (header_word site.shape s)) ≢ splitting
  pub others : (site : Ground) (words : Words) (views : List View) (j : ℕ) (v : View) → Holds site words views → At views j v → OthersHaveNoAreas j views
      → (s : ℕ) → IsCurrentIn site words s → state_in (words (header_word site.shape s)) ≡ splitting → Has (Segment s) v.areas × Has (Whole s) v.areas
