-- The turns that led to an open image, and the calls that are behind.
use Rattle.std.specs.Prelude.{◌≡◌, ℕ, ◌+◌, ◌-◌, ◌≤◌, ⊤, Some, List, [], ◌∷◌, length}
use Rattle.restart_op.specs.Budget.{BeginsWithASweep, Falls as RestartFalls}
use Rattle.restart_op.specs.Restarted.{RestartAsks}
use Rattle.restart_op.specs.Closing.{left as close_left, events_of, Falls as CloseFalls}
use Rattle.engine.specs.Core.{Caller, Core}
use Rattle.engine.specs.Alone.{along}
use Rattle.core_run.specs.declared.keeper.Keeper.{Keeper}
use Rattle.core_run.specs.declared.keeper.Keeper.TheVariants.{Restarting, Open, Closing, Closed}
use Rattle.core_run.specs.State.{State, Deed, deed, beginning}
use Rattle.core_run.specs.Running.{Setup, IsSetup, start_of, IsRunning, DeedsAreWell}

-- some turns led to this core from the image's opening on
pub record HasTurns (t : Setup) (core : Core) : Type 0 where
  pub turns : List ℕ
  pub core_is : core ≡ (along t.shape t.first t.scripts turns).core

-- and a close has no more events left than the whole of it has
abbrev pub IsAlongBy : Setup → Keeper → Core → Type 0
IsAlongBy t (Restarting op) core = ⊤
IsAlongBy t Open core = HasTurns t core
IsAlongBy t (Closing op) core = close_left op ≤ events_of t.shape
IsAlongBy t Closed core = ⊤

abbrev pub IsAlong : Setup → State → Type 0
IsAlong t s = IsAlongBy t s.keeper s.core

-- so many calls have no reply yet
abbrev pub behind : Caller → ℕ
behind c = length c.calls - length c.entries

abbrev pub all_behind : List Caller → ℕ
all_behind [] = 0
all_behind (c ∷ callers) = behind c + all_behind callers

-- ---- the laws of one event
-- it is so at the beginning
abbrev pub BeginsAlong : Type 0
BeginsAlong = (t : Setup) → IsSetup t → IsAlong t (beginning t.shape (start_of t) t.scripts)

-- AND EACH EVENT keeps it, whichever caller does it
abbrev pub ComesAlong : Type 0
ComesAlong = (t : Setup) (c : ℕ) (s : State) (d : Deed) → IsSetup t → IsRunning t s → IsAlong t s → deed t.shape c s ≡ Some d → IsAlong t d.state

-- what the ends of a restart and of a close rest on: each event of them leaves fewer, a restart has no more than with a sweep, and what is done keeps
-- what holds of a run, and its turns
pub record KeeperLaws : Type 0 where
  pub wells : DeedsAreWell
  pub comes : ComesAlong
  pub most : BeginsWithASweep
  pub restart : RestartFalls
  pub asks : RestartAsks
  pub close : CloseFalls
