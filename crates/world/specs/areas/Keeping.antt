-- The laws of the kinds of step at the structure: each keeps each part of the invariant.
use Rattle.std.specs.Prelude.{◌≡◌, ◌≢◌, ◌==◌, ℕ, List, set, if◌then◌else◌}
use Rattle.trace.specs.Events.{Words}
use Rattle.image_layout.specs.Volatile.{power_word, free_guard}
use Rattle.frame_facts.specs.Core.{core}
use Rattle.frame_facts.specs.Hits.{find}
use Rattle.frame_facts.specs.Facts.{Fact, HoldsFact}
use Rattle.world.specs.Ground.{Ground, version_of, IsStructured, IsSpentLock}
use Rattle.world.specs.Views.{View, Has, At}
use Rattle.world.specs.Wants.{word_of, words_after}
use Rattle.world.specs.History.{Log}
use Rattle.world.specs.Media.{IsPossible}
use Rattle.world.specs.Parts.{Locks, Plans, History, Room, Spending, Powered, IsPinned}
use Rattle.world.specs.Invariant.{UsedSlots, Structure, KnownWords, Records, Overflow, Media, Notes, Holds}
use Rattle.world.specs.areas.Fitting.{Fits}
use Rattle.world.specs.areas.Lasting.{Owners, Lasting, SettledSlots}
use Rattle.world.specs.areas.Saying.{MaySay}
use Rattle.world.specs.areas.Kinds.{Guard, guard_word, HasGuard, area_of, StructureKind, wanted_at, view_then}
use Rattle.world.specs.areas.Asking.{MayBeNewest, MayStandBeside, MayAt}

-- the medium of the cores of one that may be left that has the newest words wherever it has their cores: cores decide what a medium is, and a
-- view knows words whole
abbrev pub whole_beside : Ground → Words → Words → Words
whole_beside site words medium i = if core site.shape medium i == core site.shape words i then words i else medium i

-- WHAT A VIEW CAN KNOW is so: the newest words may be the newest; they may stand beside themselves; and so may each medium that a cut may
-- leave, with whole words
pub record KnownIsSo : Type 0 where
  pub newest : (site : Ground) (words : Words) (views : List View) (j : ℕ) (v : View) → Holds site words views → At views j v → MayBeNewest site v words
  pub beside : (site : Ground) (words medium : Words) (views : List View) (j : ℕ) (v : View) → Holds site words views → At views j v → IsPossible site words views medium
      → MayStandBeside site v words (whole_beside site words medium)
  pub itself : (site : Ground) (words : Words) (views : List View) (j : ℕ) (v : View) → Holds site words views → At views j v → MayStandBeside site v words words

module _ (site : Ground) (kind : StructureKind) where
  -- the word that a step finds, and the words after it
  abbrev pub found_at : Words → ℕ
  found_at words = words (word_of site.shape (wanted_at site.shape kind))

  abbrev pub words_then : ℕ → Words → Words
  words_then j words = words_after site.shape (wanted_at site.shape kind) j words

  -- and the views
  abbrev pub views_then : ℕ → View → Words → List View → List View
  views_then j v words views = set views j (view_then site.shape kind (found_at words) v)

-- a step keeps a part, by its condition on the view of who takes it; no such step adds to the history
abbrev pub KeepsPart : ((site : Ground) → Words → List View → Log → Type 0) → Type 0
KeepsPart Part = (site : Ground) (kind : StructureKind) (words : Words) (views : List View) (j : ℕ) (v : View) (h : Holds site words views) → At views j v → MayAt site kind v
    → Part site (words_then site kind j words) (views_then site kind j v words views) h.log

abbrev pub KeepsStructure : Type 0
KeepsStructure = KeepsPart (λ site words views log. Structure site words views)

-- of the structure: that it is sound in whatever a cut may leave, and that facts hold
abbrev pub KeepsSound : Type 0
KeepsSound = KeepsPart (λ site words views log. (medium : Words) → IsPossible site words views medium → IsStructured site medium)

abbrev pub KeepsFacts : Type 0
KeepsFacts = KeepsPart (λ site words views log. (c : ℕ) (u : View) (fact : Fact) (medium : Words) → At views c u → Has fact u.facts → IsPossible site words views medium
    → HoldsFact site.shape (version_of site) words fact medium)

-- that locks and areas fit it, and of owners and live segments in whatever a cut may leave
abbrev pub KeepsAreas : Type 0
KeepsAreas = KeepsPart (λ site words views log. Fits site words views × Owners site words views × Lasting site words views)

-- that a taken slot is so in whatever a cut may leave, or is being taken
abbrev pub KeepsSettledSlots : Type 0
KeepsSettledSlots = KeepsPart (λ site words views log. SettledSlots site words views)

-- that one which was free at the start is used where it is taken
abbrev pub KeepsUsedSlots : Type 0
KeepsUsedSlots = KeepsPart (λ site words views log. UsedSlots site words)

-- that a guard which a view has is not free by its word
abbrev pub KeepsGuards : Type 0
KeepsGuards = KeepsPart (λ site words views log. (c : ℕ) (u : View) (guard : Guard) → At views c u → Has (area_of guard) u.areas → words (guard_word site.shape guard) ≢ free_guard)

-- that a guard which is not free is had by some view
abbrev pub KeepsHeldGuards : Type 0
KeepsHeldGuards = KeepsPart (λ site words views log. (guard : Guard) → HasGuard site.shape guard → words (guard_word site.shape guard) ≢ free_guard
    → (c : ℕ) × (u : View) × At views c u × Has (area_of guard) u.areas)

-- that a view may say its facts
abbrev pub KeepsSayers : Type 0
KeepsSayers = KeepsPart (λ site words views log. (c : ℕ) (u : View) (fact : Fact) → At views c u → Has fact u.facts → MaySay u.areas fact)

-- that pinned headers are as they were
abbrev pub KeepsPins : Type 0
KeepsPins = KeepsPart (λ site words views log. (c : ℕ) (u : View) (s x : ℕ) → At views c u → Has (s, x) u.pinned → IsPinned site words u s x)

abbrev pub KeepsLocks : Type 0
KeepsLocks = KeepsPart (λ site words views log. Locks site words views)

abbrev pub KeepsHeldWords : Type 0
KeepsHeldWords = KeepsPart (λ site words views log. KnownWords site words views)

abbrev pub KeepsOwnedRecords : Type 0
KeepsOwnedRecords = KeepsPart (λ site words views log. Records site words views)

abbrev pub KeepsNotesOfHomes : Type 0
KeepsNotesOfHomes = KeepsPart (λ site words views log. Overflow site words views)

abbrev pub KeepsMedia : Type 0
KeepsMedia = KeepsPart (λ site words views log. Media site words views log)

-- the parts of which no such step changes much
pub record KeepsOthers : Type 0 where
  pub plans : KeepsPart (λ site words views log. Plans site words views log)
  pub history : KeepsPart (λ site words views log. History site words views log)
  pub notes : KeepsPart (λ site words views log. Notes site words views log)
  pub room : KeepsPart (λ site words views log. Room site views log)
  pub spending : KeepsPart (λ site words views log. Spending site words views log)
  pub powered : KeepsPart (λ site words views log. Powered site words views)

-- EACH KIND OF STEP at the structure keeps the invariant, with the same history
abbrev pub KeepsHolding : Type 0
KeepsHolding = (site : Ground) (kind : StructureKind) (words : Words) (views : List View) (j : ℕ) (v : View) (h : Holds site words views) → At views j v → MayAt site kind v
    → (after : Holds site (words_then site kind j words) (views_then site kind j v words views)) × (after.log ≡ h.log)

-- AND IT LEAVES what each key has, the power word, and each lock word of a live segment that is free with the last version
pub record StructureStepsSpare : Type 0 where
  pub pairs : (site : Ground) (kind : StructureKind) (words : Words) (views : List View) (j : ℕ) (v : View) → Holds site words views → At views j v → MayAt site kind v
      → (k : ℕ) → find site.shape (words_then site kind j words) k ≡ find site.shape words k
  pub power : (site : Ground) (kind : StructureKind) (words : Words) (views : List View) (j : ℕ) (v : View) → Holds site words views → At views j v → MayAt site kind v
      → words_then site kind j words (power_word site.shape) ≡ words (power_word site.shape)
  pub spent : (site : Ground) (kind : StructureKind) (words : Words) (views : List View) (j : ℕ) (v : View) → Holds site words views → At views j v → MayAt site kind v
      → (lock : ℕ) → IsSpentLock site.shape words lock → IsSpentLock site.shape (words_then site kind j words) lock

-- and what its caller has replied and seen, and for how many callers it stands
pub record StructureStepsReplyNothing : Type 0 where
  pub own : (site : Ground) (kind : StructureKind) (words : Words) (v : View) → (view_then site.shape kind (found_at site kind words) v).own ≡ v.own
  pub seen : (site : Ground) (kind : StructureKind) (words : Words) (v : View) → (view_then site.shape kind (found_at site kind words) v).seen ≡ v.seen
  pub callers : (site : Ground) (kind : StructureKind) (words : Words) (v : View) → (view_then site.shape kind (found_at site kind words) v).callers ≡ v.callers
