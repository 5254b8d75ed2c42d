-- What a caller has seen, over any turns of any callers: it sees more by what it is told, and by nothing else.
use Rattle.std.specs.Prelude.{◌≡◌, ℕ, Some, List, [], slice_get}
use Rattle.trace.specs.Events.{Words}
use Rattle.world.specs.Ground.{Ground}
use Rattle.world.specs.Views.{View, At}
use Rattle.world.specs.Attempts.{HoldsOnly}
use Rattle.world.specs.Later.{IsLater}
use Rattle.engine.specs.Core.{Caller, Core, run}
use Rattle.engine.specs.Holding.{CoreHolds}
use Rattle.engine.specs.Alone.{IsBetween}

-- what holds of a core and of one behind it: the view of each caller in the second is a later one of its view in the first
pub record HoldsBehind (site : Ground) (start : Words) (core : Core) (h : CoreHolds site start core) (behind : Core) : Type 0 where
  pub holds : CoreHolds site start behind
  pub later : (j : ℕ) (v : View) → At h.views j v → (w : View) × At holds.views j w × IsLater v w

-- ANY TURNS leave later views: what a caller has seen is never taken back, each reply that it is told comes at a place not before that, and by turns
-- in which it is told none it sees no more
abbrev pub ViewsGetLater : Type 0
ViewsGetLater = (site : Ground) (start : Words) (core : Core) (h : CoreHolds site start core) (turns : List ℕ) → HoldsBehind site start core h (run site.shape turns core)

-- the caller at place j, whose view was v, holds and owes nothing, has the replies that it had, and has seen what it had
pub record SeesNoMore (site : Ground) (start : Words) (v : View) (j : ℕ) (behind : Core) : Type 0 where
  pub holds : CoreHolds site start behind
  pub view : View
  pub seated : At holds.views j view
  pub nothing : HoldsOnly [] view
  pub own : view.own ≡ v.own
  pub seen : view.seen ≡ v.seen

-- WHO WAS TOLD NOTHING HAS SEEN NOTHING: a caller that is between two attempts, and is so again behind any turns, with the list that it had, as where
-- its attempts in between ended without a reply
abbrev pub ToldNothingSeesNothing : Type 0
ToldNothingSeesNothing = (site : Ground) (start : Words) (core : Core) (h : CoreHolds site start core) (turns : List ℕ) (j : ℕ) (v : View) (c behind : Caller) → At h.views j v
    → slice_get core.callers j ≡ Some c → IsBetween c → slice_get (run site.shape turns core).callers j ≡ Some behind → IsBetween behind → behind.entries ≡ c.entries
    → SeesNoMore site start v j (run site.shape turns core)
