-- The laws of the world at a step of any kind, each to be read on its own.
use Rattle.std.specs.Prelude.{◌≡◌, ◌≢◌, ℕ, ◌≤◌, List, [], ◌∷◌, ◌++◌, set}
use Rattle.trace.specs.Events.{Words, value}
use Rattle.image_layout.specs.Places.{Shape}
use Rattle.image_layout.specs.Volatile.{power_word}
use Rattle.frame_facts.specs.Standing.{IsTable}
use Rattle.frame_facts.specs.Hits.{find}
use Rattle.frame_facts.specs.Owners.{IsStructure}
use Rattle.world.specs.Ground.{Ground, IsStructured, IsSpentLock}
use Rattle.world.specs.Views.{View, At}
use Rattle.world.specs.History.{Log}
use Rattle.world.specs.Wants.{word_of, event_of, words_after}
use Rattle.world.specs.Kinds.{Kind, cuts_power, view_after}
use Rattle.world.specs.Conditions.{May, IsNewest, StandsBeside}
use Rattle.world.specs.Media.{IsPossible, Stands}
use Rattle.world.specs.Parts.{History}
use Rattle.world.specs.Invariant.{Holds}
use Rattle.world.specs.World.{World, changed_at}
use Rattle.world.specs.Seats.{cut_off, left_of, joined, spent}
use Rattle.world.specs.Pairs.{IsPublishingKind}
use Rattle.world.specs.Later.{IsLater}
use Rattle.world.specs.areas.Worlds.{IsWell}
use Rattle.world.specs.StepKinds.{StepKind, of_call, of_structure, IsMildKind, wanted_of, view_by, log_by, MayTake}

-- one step, by the caller of a seat
abbrev pub step_by : Shape → StepKind → ℕ → World → World
step_by shape kind j world = record {
  words = words_after shape (wanted_of shape kind) j world.words;
  trace = event_of shape (wanted_of shape kind) (world.words (word_of shape (wanted_of shape kind))) j ∷ world.trace;
  views = changed_at j (view_by shape kind (world.words (word_of shape (wanted_of shape kind)))) world.views;
}

module _ (site : Ground) (kind : StepKind) where
  -- the word that a step finds
  abbrev pub found_of : Words → ℕ
  found_of words = words (word_of site.shape (wanted_of site.shape kind))

  -- the words after it
  abbrev pub words_of_step : ℕ → Words → Words
  words_of_step j words = words_after site.shape (wanted_of site.shape kind) j words

  -- the views after it
  abbrev pub views_of_step : ℕ → View → Words → List View → List View
  views_of_step j v words views = set views j (view_by site.shape kind (found_of words) v)

  -- A STEP KEEPS WHAT HOLDS, by a condition on the view of who takes it; and adds to the history what it says
  abbrev pub Keeps : Type 0
  Keeps = (words : Words) (views : List View) (j : ℕ) (v : View) (h : Holds site words views) → At views j v → MayTake site kind v
      → (after : Holds site (words_of_step j words) (views_of_step j v words views)) × (after.log ≡ log_by kind h.log)

-- MILD KINDS keep it whatever areas their view has
abbrev pub MildKindsKeep : Type 0
MildKindsKeep = (site : Ground) (kind : Kind) → IsMildKind kind → (words : Words) (views : List View) (j : ℕ) (v : View) (h : Holds site words views) → At views j v
    → (after : Holds site (words_of_step site (of_call kind) j words) (views_of_step site (of_call kind) j v words views)) × (after.log ≡ h.log)

-- what a cut may leave has a sound structure, is a table, and has for each key what the history gives it, or what one change that is
-- stored and not drawn does
pub record IsGoodMedium (site : Ground) (views : List View) (log : Log) (medium : Words) : Type 0 where
  pub structure : IsStructured site medium
  pub table : IsTable site.shape medium
  pub stands : (k : ℕ) → Stands site views log k (find site.shape medium k)

-- WHATEVER A CUT MAY LEAVE IS GOOD, over one history in which all replies are right
abbrev pub MediaStand : Type 0
MediaStand = (site : Ground) (words : Words) (views : List View) → Holds site words views
    → (log : Log) × History site words views log × ((medium : Words) → IsPossible site words views medium → IsGoodMedium site views log medium)

-- no step but its own store changes the power word
abbrev pub PowerStays : Type 0
PowerStays = (site : Ground) (words : Words) (views : List View) (j : ℕ) (v : View) (kind : StepKind) (c : ℕ) → Holds site words views → At views j v → kind ≢ of_call cuts_power
    → MayTake site kind v → words_of_step site kind c words (power_word site.shape) ≡ words (power_word site.shape)

-- A STEP DOES WHAT ITS EVENT SAYS: the words after it are those that the events make
abbrev pub StepsDoEvents : Type 0
StepsDoEvents = (shape : Shape) (start : Words) (kind : StepKind) (j : ℕ) (world : World) → world.words ≡ value start world.trace
    → (step_by shape kind j world).words ≡ value start (step_by shape kind j world).trace

-- A STEP KEEPS THE WORLD WELL, by a condition on the view of who takes it
abbrev pub KeepsWell : Type 0
KeepsWell = (site : Ground) (start : Words) (kind : StepKind) (world : World) (j : ℕ) (v : View) → IsWell site start world → At world.views j v → MayTake site kind v
    → IsWell site start (step_by site.shape kind j world)

-- the two kinds of step that make a change
abbrev pub IsPublishingStep : StepKind → Type 0
IsPublishingStep (of_call kind) = IsPublishingKind kind
IsPublishingStep (of_structure kind) = ⊥

-- EACH OTHER STEP leaves what every key has as it was, whatever number its caller has
abbrev pub OtherStepsKeepPairs : Type 0
OtherStepsKeepPairs = (site : Ground) (words : Words) (views : List View) (j : ℕ) (v : View) (kind : StepKind) (number : ℕ) → Holds site words views → At views j v → MayTake site kind v
    → (IsPublishingStep kind → ⊥) → (k : ℕ) → find site.shape (words_of_step site kind number words) k ≡ find site.shape words k

-- EACH STEP leaves a lock word of a live segment that is free with the last version
abbrev pub SpentLocksStay : Type 0
SpentLocksStay = (site : Ground) (words : Words) (views : List View) (j : ℕ) (v : View) (kind : StepKind) (lock : ℕ) → Holds site words views → At views j v → MayTake site kind v
    → IsSpentLock site.shape words lock → IsSpentLock site.shape (words_of_step site kind j words) lock

-- A STEP leaves a later view
abbrev pub RepliesComeLater : Type 0
RepliesComeLater = (site : Ground) (words : Words) (views : List View) (j : ℕ) (v : View) (kind : StepKind) → Holds site words views → At views j v
    → IsLater v (view_by site.shape kind (found_of site kind words) v)

-- A VIEW THAT IS CUT IN TWO keeps what holds; the new one takes the next seat
abbrev pub CutsKeep : Type 0
CutsKeep = (site : Ground) (words : Words) (views : List View) (j : ℕ) (v : View) (n : ℕ) → Holds site words views → At views j v → n ≤ v.callers
    → Holds site words (set views j (left_of v n) ++ cut_off v n ∷ [])

-- TWO VIEWS THAT ARE JOINED keep it
abbrev pub JoinsKeep : Type 0
JoinsKeep = (site : Ground) (words : Words) (views : List View) (j i : ℕ) (v w : View) → Holds site words views → At views j v → At views i w → i ≢ j
    → Holds site words (set (set views j (joined v w)) i (spent w))

-- ---- for views without areas
-- a step of a caller's kinds leaves the areas of its view
abbrev pub CallsLeaveAreas : Type 0
CallsLeaveAreas = (shape : Shape) (kind : Kind) (n : ℕ) (v : View) → (view_after shape kind n v).areas ≡ v.areas

-- where there are none, no kind asks more than its condition
abbrev pub CallsWithoutAreas : Type 0
CallsWithoutAreas = (site : Ground) (kind : Kind) (v : View) → v.areas ≡ [] → May site kind v → MayTake site (of_call kind) v

-- and its view knows what the conditions of callers' kinds rest on
pub record KnowWithoutAreas : Type 0 where
  pub newest : (site : Ground) (words : Words) (views : List View) (j : ℕ) (v : View) → Holds site words views → At views j v → v.areas ≡ [] → IsNewest site v words
  pub itself : (site : Ground) (words : Words) (views : List View) (j : ℕ) (v : View) → Holds site words views → At views j v → v.areas ≡ [] → StandsBeside site v words words

-- a step of a caller's kinds stores to no word of the structure, whatever number its caller has
abbrev pub CallsSpareTheStructure : Type 0
CallsSpareTheStructure = (site : Ground) (words : Words) (views : List View) (j : ℕ) (v : View) (kind : Kind) (number : ℕ) → Holds site words views → At views j v → May site kind v
    → (i : ℕ) → IsStructure site.shape i → words_of_step site (of_call kind) number words i ≡ words i
