-- The world at a step at the structure: it does what its event says, and keeps the events of the device and the views tied,
-- so that a power cut leaves no more than the views say.
use Rattle.std.specs.Prelude.{◌≡◌, ℕ, ◌∷◌, List, set}
use Rattle.trace.specs.Events.{Words, Trace, value}
use Rattle.trace.specs.Events.Event.{flushed}
use Rattle.trace.specs.Media.{IsPossible as DevicePossible}
use Rattle.image_layout.specs.Places.{Shape, words_of}
use Rattle.world.specs.Ground.{Ground}
use Rattle.world.specs.Views.{View, At}
use Rattle.world.specs.Wants.{word_of, event_of, words_after}
use Rattle.world.specs.Kinds.{Kind, flushes, wanted, view_after}
use Rattle.world.specs.Conditions.{May}
use Rattle.world.specs.Laws.{found_by, views_by}
use Rattle.world.specs.Media.{IsPossible}
use Rattle.world.specs.Tied.{Tied}
use Rattle.world.specs.World.{World, changed_at}
use Rattle.world.specs.areas.Kinds.{StructureKind, wanted_at, view_then}
use Rattle.world.specs.areas.Asking.{MayAt}
use Rattle.world.specs.Invariant.{Holds}
use Rattle.world.specs.areas.Keeping.{found_at, views_then}
use Rattle.world.specs.areas.Beginning.{Begins}

-- one step of a kind at the structure, by the caller of a seat
abbrev pub step_at : Shape → StructureKind → ℕ → World → World
step_at shape kind j world = record {
  words = words_after shape (wanted_at shape kind) j world.words;
  trace = event_of shape (wanted_at shape kind) (world.words (word_of shape (wanted_at shape kind))) j ∷ world.trace;
  views = changed_at j (view_then shape kind (world.words (word_of shape (wanted_at shape kind)))) world.views;
}

-- the world is well: its words are those that its events made, the invariant holds of words and views, and views and events are tied
pub record IsWell (site : Ground) (start : Words) (world : World) : Type 0 where
  pub words_are : world.words ≡ value start world.trace
  pub holds : Holds site world.words world.views
  pub tied : Tied site start world.trace world.views

-- A STEP DOES WHAT ITS EVENT SAYS
abbrev pub StructureStepsDoEvents : Type 0
StructureStepsDoEvents = (shape : Shape) (start : Words) (kind : StructureKind) (j : ℕ) (world : World) → world.words ≡ value start world.trace
    → (step_at shape kind j world).words ≡ value start (step_at shape kind j world).trace

-- A STEP KEEPS EVENTS AND VIEWS TIED: a store to a held word, to a guard or to a lock, a fence, a load
abbrev pub StructureStepsKeepTied : Type 0
StructureStepsKeepTied = (site : Ground) (start : Words) (es : Trace) (kind : StructureKind) (views : List View) (j : ℕ) (v : View) → Holds site (value start es) views → At views j v
    → MayAt site kind v → Tied site start es views
    → Tied site start (event_of site.shape (wanted_at site.shape kind) (found_at site kind (value start es)) j ∷ es) (views_then site kind j v (value start es) views)

-- so does a flush of any line, whatever holds
abbrev pub FlushesKeepTied : Type 0
FlushesKeepTied = (site : Ground) (start : Words) (es : Trace) (views : List View) (j : ℕ) (v : View) (l n : ℕ) → At views j v → Tied site start es views
    → Tied site start (flushed j l ∷ es) (set views j (view_after site.shape (flushes l) n v))

-- and each kind of step of a caller, whatever areas its view or others have
abbrev pub CallersKeepTied : Type 0
CallersKeepTied = (site : Ground) (start : Words) (es : Trace) (kind : Kind) (views : List View) (j : ℕ) (v : View) → Holds site (value start es) views → At views j v
    → May site kind v → Tied site start es views
    → Tied site start (event_of site.shape (wanted site.shape kind) (found_by site kind (value start es)) j ∷ es) (views_by site kind j v (value start es) views)

-- A STEP KEEPS THE WORLD WELL
abbrev pub StructureStepsKeepWell : Type 0
StructureStepsKeepWell = (site : Ground) (start : Words) (kind : StructureKind) (world : World) (j : ℕ) (v : View) → IsWell site start world → At world.views j v → MayAt site kind v
    → IsWell site start (step_at site.shape kind j world)

-- A RESTART leaves it well
abbrev pub BeginsWell : Type 0
BeginsWell = (site : Ground) (start : Words) (world : World) → Begins site start world → IsWell site start world

-- WHAT A CUT OF THE DEVICE MAY LEAVE is what the views say
abbrev pub DeviceLeaves : Type 0
DeviceLeaves = (site : Ground) (start : Words) (world : World) (medium : Words) → IsWell site start world
    → DevicePossible (words_of site.shape) start world.trace medium → IsPossible site world.words world.views medium
