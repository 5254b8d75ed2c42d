-- The words of guards: whose word is `free_guard` nobody has.
use Rattle.std.specs.Prelude.{◌≡◌, ◌≢◌, ℕ, ◌∷◌, List, set}
use Rattle.trace.specs.Events.{Words, with_word}
use Rattle.image_layout.specs.Places.{Shape}
use Rattle.image_layout.specs.Volatile.{allocation_guard, directory_guard, segment_guard, free_guard}
use Rattle.world.specs.Ground.{Ground}
use Rattle.world.specs.Views.{View, Has, At}
use Rattle.world.specs.areas.Areas.{Area, Segment, Stale, Side, Free, Whole, Allocation, Directory}
use Rattle.world.specs.areas.Fitting.{Fits}
use Rattle.world.specs.areas.Spared.{NobodyHas}

-- a word is that of the guard which an area is
abbrev pub IsGuardOf : Shape → Area → ℕ → Type 0
IsGuardOf shape (Segment s) i = i ≡ segment_guard shape s
IsGuardOf shape (Stale s) i = ⊥
IsGuardOf shape (Side n) i = ⊥
IsGuardOf shape (Free n) i = ⊥
IsGuardOf shape (Whole s) i = ⊥
IsGuardOf shape Allocation i = i ≡ allocation_guard shape
IsGuardOf shape Directory i = i ≡ directory_guard shape

-- GUARDS: who has a guard, its word is not that of a free one
pub record Guards (site : Ground) (words : Words) (views : List View) : Type 0 where
  pub taken : (j : ℕ) (v : View) (a : Area) (i : ℕ) → At views j v → Has a v.areas → IsGuardOf site.shape a i → words i ≢ free_guard

-- SO A GUARD THAT IS FREE BY ITS WORD is nobody's, and an exchange from that word wins it
abbrev pub FreeGuardsAreNobodys : Type 0
FreeGuardsAreNobodys = (site : Ground) (words : Words) (views : List View) (a : Area) (i : ℕ) → Guards site words views → IsGuardOf site.shape a i → words i ≡ free_guard → NobodyHas site words views a

-- the store that takes a guard keeps it
abbrev pub TakenGuardsAreKept : Type 0
TakenGuardsAreKept = (site : Ground) (words : Words) (views : List View) (j : ℕ) (v w : View) (a : Area) (i x : ℕ) → At views j v → Guards site words views
    → IsGuardOf site.shape a i → x ≢ free_guard → w.areas ≡ a ∷ v.areas → Guards site (with_word words i x) (set views j w)

-- so does the one that gives a guard back, with which its holder has it no more
abbrev pub GivenGuardsAreKept : Type 0
GivenGuardsAreKept = (site : Ground) (words : Words) (views : List View) (j : ℕ) (v w : View) (a : Area) (i : ℕ) → At views j v → Fits site words views → Guards site words views
    → IsGuardOf site.shape a i → Has a v.areas → ((b : Area) → Has b w.areas → Has b v.areas) → (Has a w.areas → ⊥) → Guards site (with_word words i free_guard) (set views j w)

-- and a store to any other word, with which no guard comes to the view
abbrev pub OtherGuardsAreKept : Type 0
OtherGuardsAreKept = (site : Ground) (words : Words) (views : List View) (j : ℕ) (v w : View) (i x : ℕ) → At views j v → Guards site words views
    → ((a : Area) → IsGuardOf site.shape a i → ⊥) → ((a : Area) (n : ℕ) → Has a w.areas → IsGuardOf site.shape a n → Has a v.areas)
    → Guards site (with_word words i x) (set views j w)
