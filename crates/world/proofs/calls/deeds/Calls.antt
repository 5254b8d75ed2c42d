-- A view without areas: each kind of call leaves it so, asks no more of it than its condition, and it knows what the conditions rest on.
use Rattle.std.proofs.Common.{◌≡◌, ℕ, List, [], subst}
use Rattle.trace.specs.Events.{Words}
use Rattle.frame_facts.specs.Facts.{Current}
use Rattle.world.specs.Ground.{Ground, IsCurrentLock}
use Rattle.world.specs.Views.{View, Has, At}
use Rattle.world.specs.Kinds.{Kind, peeks, asks_power, flushes, fences, cuts_power}
use Rattle.world.specs.Conditions.{IsNewest, StandsBeside, IsKnownLock}
use Rattle.world.specs.areas.Areas.{Area, Side, Whole}
use Rattle.world.specs.Invariant.{Holds}
use Rattle.world.specs.areas.Bridging.{HasNoWhole}
use Rattle.world.specs.StepKinds.{AsksOfView}
use Rattle.world.specs.StepLaws.{CallsLeaveAreas, CallsWithoutAreas, KnowWithoutAreas}
use Rattle.world.proofs.invariant.Stays.{areas_stay}
use Rattle.world.proofs.holding.Beside.{newest}
use Rattle.world.proofs.mild.Bridging.{callers_know}

-- where there are no areas, there is none of any sort
pub has_none : (v : View) → v.areas ≡ [] → (a : Area) → Has a v.areas → ⊥
has_none v none a has = subst (λ (areas : List Area). Has a areas) none has

-- so no segment is whole
pub has_no_whole : (v : View) → v.areas ≡ [] → HasNoWhole v
has_no_whole v none s has = has_none v none (Whole s) has

pub calls_leave : CallsLeaveAreas
calls_leave shape kind n v = areas_stay shape kind n v

-- nothing is asked of areas where there are none
asks_nothing : (site : Ground) (v : View) → v.areas ≡ [] → (kind : Kind) → AsksOfView site kind v
asks_nothing site v none (peeks i) = tt
asks_nothing site v none asks_power = tt
asks_nothing site v none (flushes l) = tt
asks_nothing site v none cuts_power = tt
asks_nothing site v none fences = (has_no_whole v none, λ n has. absurd (has_none v none (Side n) has))
asks_nothing site v none kind = has_no_whole v none

pub calls_may : CallsWithoutAreas
calls_may site kind v none may = (may, asks_nothing site v none kind)

-- the newest words may be the newest
pub newest_without : (site : Ground) (words : Words) (views : List View) (j : ℕ) (v : View) → Holds site words views → At views j v → v.areas ≡ [] → IsNewest site v words
newest_without site words views j v h at none = callers_know.newest site words views j v h at (has_no_whole v none)

-- and they may stand beside themselves
pub itself_without : (site : Ground) (words : Words) (views : List View) (j : ℕ) (v : View) → Holds site words views → At views j v → v.areas ≡ [] → StandsBeside site v words words
itself_without site words views j v h at none = callers_know.itself site words views j v h at (has_no_whole v none)

pub know_without : KnowWithoutAreas
know_without = record { newest = newest_without; itself = itself_without }

-- a lock word that a view knows is one of a current segment
pub lock_current : (site : Ground) (words : Words) (views : List View) (j : ℕ) (v : View) → Holds site words views → At views j v → (lock : ℕ) → IsKnownLock site v lock
    → IsCurrentLock site words lock
lock_current site words views j v h at lock k = (k.0, k.1, k.2, k.3, k.4, h.structure.says j v (Current k.0) words at k.6 (newest site words views))
