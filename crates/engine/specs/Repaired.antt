-- A repair leaves its segment in order: by the very event that gives it the image's version, beside any other callers; and wherever all callers stand
-- between two attempts, as they do behind each attempt of one that steps while all others stand so.
use Rattle.std.specs.Prelude.{◌≡◌, ℕ, Some, slice_get}
use Rattle.trace.specs.Events.{Words}
use Rattle.world.specs.Ground.{Ground, IsCurrentIn}
use Rattle.world.specs.Slots.{IsStaleSlot}
use Rattle.world.specs.areas.Asking.{IsInOrder}
use Rattle.world.specs.areas.Beginning.{IsRepaired}
use Rattle.engine.specs.Core.{Caller, Core, turn}
use Rattle.engine.specs.Holding.{CoreHolds}
use Rattle.engine.specs.Alone.{IsBetween}

-- WHICHEVER TURN MAKES A STALE SEGMENT CURRENT leaves it repaired: it is normal then, each record in it is its own, each key stands once, the notes of
-- its homes are exact, and no lock of it is taken
abbrev pub TurnRepairs : Type 0
TurnRepairs = (site : Ground) (start : Words) (core : Core) (c s : ℕ) → CoreHolds site start core → IsStaleSlot site core.words s → IsCurrentIn site (turn site.shape c core).words s
    → IsRepaired site (turn site.shape c core).words s

-- all callers stand between two attempts
abbrev pub AllAreBetween : Core → Type 0
AllAreBetween core = (j : ℕ) (c : Caller) → slice_get core.callers j ≡ Some c → IsBetween c

-- THERE EACH SEGMENT of the image's version is in order: each record in it is its own, each key stands once, and the notes of its homes are exact
abbrev pub BetweenIsInOrder : Type 0
BetweenIsInOrder = (site : Ground) (start : Words) (core : Core) → CoreHolds site start core → AllAreBetween core → (s : ℕ) → IsCurrentIn site core.words s → IsInOrder site core.words s
