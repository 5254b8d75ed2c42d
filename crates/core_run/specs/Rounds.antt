-- The end rule: callers take turns, round after round, till no call is left. After the first round each caller stands between two attempts or waits
-- for the guard of the directory; after the second all stand between two attempts; and from then on each turn of a caller that has a call left
-- ends that call. Where one caller alone has calls, each of its turns does so.
use Rattle.std.specs.Prelude.{◌≡◌, ◌≢◌, ℕ, suc, ◌+◌, ◌≤◌, ◌⊎◌, true, false, None, Some, List, [], slice_get}
use Rattle.map_model.specs.declared.call.Call.{Call}
use Rattle.map_model.specs.Weave.{first_caller}
use Rattle.engine.specs.declared.engine.Engine.{Engine}
use Rattle.engine.specs.OpPart.{op_part}
use Rattle.engine.specs.Core.{Caller, Core, current}
use Rattle.engine.specs.Laws.{NoneRuns}
use Rattle.engine.specs.Alone.{along, IsRestingBy}
use Rattle.core_run.specs.declared.keeper.Keeper.TheVariants.{Open}
use Rattle.core_run.specs.declared.goal.Goal.TheVariants.{Turn}
use Rattle.core_run.specs.State.{State}
use Rattle.core_run.specs.Run.{drive, round, rounds, has_calls}
use Rattle.core_run.specs.Running.{Setup, IsSetup}
use Rattle.core_run.specs.Along.{behind, all_behind}
use Rattle.core_run.specs.Ends.{IsRun, most_of}

-- ---- how callers stand
-- a caller waits for the guard of the directory
abbrev pub IsWaiting : Caller → Type 0
IsWaiting c = (e : Engine) × (c.engine ≡ Some e) × (op_part.is_waiting e.op ≡ true)

-- some turns led to this core, after which each caller rests between two attempts, or waits for the guard of the directory
pub record RestOrWait (t : Setup) (core : Core) : Type 0 where
  pub turns : List ℕ
  pub core_is : core ≡ (along t.shape t.first t.scripts turns).core
  pub each : (j : ℕ) (c : Caller) → slice_get core.callers j ≡ Some c → IsRestingBy c ((along t.shape t.first t.scripts turns).doings j) ⊎ IsWaiting c

-- or after which all rest
pub record AllRest (t : Setup) (core : Core) : Type 0 where
  pub turns : List ℕ
  pub core_is : core ≡ (along t.shape t.first t.scripts turns).core
  pub each : (j : ℕ) (c : Caller) → slice_get core.callers j ≡ Some c → IsRestingBy c ((along t.shape t.first t.scripts turns).doings j)

-- ---- a turn, and a round
module _ (t : Setup) (most : ℕ) where
  abbrev pub turn_of : ℕ → State → State
  turn_of c s = drive t.shape most c Turn 1 s

  abbrev pub one_round : State → State
  one_round s = round t.shape most first_caller s.core.callers s

-- the image stays open, and no more calls are left without a reply
pub record StaysOpen (before after : State) : Type 0 where
  pub still_open : after.keeper ≡ Open
  pub no_more : all_behind after.core.callers ≤ all_behind before.core.callers

-- ONE CALL has ended, and it is one of the caller at place j, who was this
pub record HasAnswered (j : ℕ) (c : Caller) (before after : State) : Type 0 where
  pub still_open : after.keeper ≡ Open
  pub fewer : all_behind after.core.callers + 1 ≡ all_behind before.core.callers
  pub caller : Caller
  pub there : slice_get after.core.callers j ≡ Some caller
  pub own : behind caller + 1 ≡ behind c

-- ALL CALLS have ended
pub record HasRunOut (t : Setup) (most : ℕ) (s : State) : Type 0 where
  pub still_open : s.keeper ≡ Open
  pub no_calls : has_calls t.shape most s.core.callers ≡ false
  pub none_behind : all_behind s.core.callers ≡ 0
  pub none_runs : NoneRuns s.core

-- ---- the laws
-- AFTER THE FIRST ROUND each caller rests or waits, whatever was done before
abbrev pub FirstRoundRests : Type 0
FirstRoundRests = (t : Setup) (most : ℕ) (s : State) → IsSetup t → most_of t ≤ most → IsRun t s → s.keeper ≡ Open
    → StaysOpen s (one_round t most s) × RestOrWait t (one_round t most s).core

-- AFTER THE SECOND all rest
abbrev pub SecondRoundRests : Type 0
SecondRoundRests = (t : Setup) (most : ℕ) (s : State) → IsSetup t → most_of t ≤ most → IsRun t s → s.keeper ≡ Open → RestOrWait t s.core
    → StaysOpen s (one_round t most s) × AllRest t (one_round t most s).core

-- WHERE ALL REST the turn of a caller that has a call left ends that call, and all rest after it
abbrev pub TurnEndsCall : Type 0
TurnEndsCall = (t : Setup) (most j : ℕ) (s : State) (c : Caller) (call : Call) → IsSetup t → most_of t ≤ most → IsRun t s → s.keeper ≡ Open → AllRest t s.core
    → slice_get s.core.callers j ≡ Some c → current c ≡ Some call → HasAnswered j c s (turn_of t most (suc j) s) × AllRest t (turn_of t most (suc j) s).core

-- and that of one that has none changes nothing
abbrev pub TurnOfNone : Type 0
TurnOfNone = (t : Setup) (most j : ℕ) (s : State) (c : Caller) → s.keeper ≡ Open → slice_get s.core.callers j ≡ Some c → current c ≡ None → turn_of t most (suc j) s ≡ s

-- so two rounds more than there are calls are enough for them all
abbrev pub RoundsEnd : Type 0
RoundsEnd = (t : Setup) (most n : ℕ) (s : State) → IsSetup t → most_of t ≤ most → IsRun t s → s.keeper ≡ Open → all_behind s.core.callers + 2 ≤ n
    → HasRunOut t most (rounds t.shape most n s)

-- and there are no more than events
abbrev pub RoundsAreEnough : Type 0
RoundsAreEnough = (t : Setup) (s : State) → IsSetup t → IsRun t s → s.keeper ≡ Open → all_behind s.core.callers + 2 ≤ most_of t

-- no caller but the one at place j has calls
abbrev pub HasAllCalls : Setup → ℕ → Type 0
HasAllCalls t j = (i : ℕ) (calls : List Call) → i ≢ j → slice_get t.scripts i ≡ Some calls → calls ≡ []

-- WHERE ONE CALLER ALONE HAS CALLS its turn ends its call, in the first round already, whatever was done before
abbrev pub OneCallersTurnEndsCall : Type 0
OneCallersTurnEndsCall = (t : Setup) (most j : ℕ) (s : State) (c : Caller) (call : Call) → IsSetup t → HasAllCalls t j → most_of t ≤ most → IsRun t s → s.keeper ≡ Open
    → slice_get s.core.callers j ≡ Some c → current c ≡ Some call → HasAnswered j c s (turn_of t most (suc j) s)

-- so as many rounds as there are calls left are enough
abbrev pub OneCallersRoundsEnd : Type 0
OneCallersRoundsEnd = (t : Setup) (most j n : ℕ) (s : State) → IsSetup t → HasAllCalls t j → most_of t ≤ most → IsRun t s → s.keeper ≡ Open
    → all_behind s.core.callers ≤ n → HasRunOut t most (rounds t.shape most n s)
