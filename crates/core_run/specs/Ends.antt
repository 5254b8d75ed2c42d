-- A run ends: whatever is done keeps a state of it, a caller that goes on stops, and the close ends.
use Rattle.std.specs.Prelude.{◌≡◌, ℕ, ◌≤◌, ⊤, None, List}
use Rattle.script_text.specs.declared.line.Line.{Line}
use Rattle.restart_op.specs.declared.restart.RestartOp.{RestartOp}
use Rattle.engine.specs.Core.{Caller}
use Rattle.core_run.specs.declared.keeper.Keeper.{Keeper}
use Rattle.core_run.specs.declared.keeper.Keeper.TheVariants.{Restarting, Open, Closing, Closed}
use Rattle.core_run.specs.declared.goal.Goal.{Goal}
use Rattle.core_run.specs.State.{State}
use Rattle.core_run.specs.Run.{drive, restarted, round, rounds, run_out, ready_for, line_done, lines_done, closed, cut_of, most_events, core_run}
use Rattle.core_run.specs.Running.{Setup, IsSetup, start_of, IsRunning}
use Rattle.core_run.specs.Along.{IsAlong}

-- a state of a run
pub record IsRun (t : Setup) (s : State) : Type 0 where
  pub running : IsRunning t s
  pub along : IsAlong t s

-- the number of events that is always enough
abbrev pub most_of : Setup → ℕ
most_of t = most_events t.shape t.scripts

-- ---- whatever is done keeps a state of the run
abbrev pub DriveStays : Type 0
DriveStays = (t : Setup) (most c : ℕ) (goal : Goal) (n : ℕ) (s : State) → IsSetup t → IsRun t s → IsRun t (drive t.shape most c goal n s)

abbrev pub RestartedStays : Type 0
RestartedStays = (t : Setup) (most : ℕ) (s : State) → IsSetup t → IsRun t s → IsRun t (restarted t.shape most s)

abbrev pub RoundStays : Type 0
RoundStays = (t : Setup) (most c : ℕ) (callers : List Caller) (s : State) → IsSetup t → IsRun t s → IsRun t (round t.shape most c callers s)

abbrev pub RoundsStay : Type 0
RoundsStay = (t : Setup) (most n : ℕ) (s : State) → IsSetup t → IsRun t s → IsRun t (rounds t.shape most n s)

abbrev pub ReadyStays : Type 0
ReadyStays = (t : Setup) (most c : ℕ) (s : State) → IsSetup t → IsRun t s → IsRun t (ready_for t.shape most c s)

abbrev pub RunOutStays : Type 0
RunOutStays = (t : Setup) (most : ℕ) (s : State) → IsSetup t → most_of t ≤ most → IsRun t s → IsRun t (run_out t.shape most s)

abbrev pub LineStays : Type 0
LineStays = (t : Setup) (most : ℕ) (l : Line) (s : State) → IsSetup t → most_of t ≤ most → IsRun t s → IsRun t (line_done t.shape most l s)

abbrev pub LinesStay : Type 0
LinesStay = (t : Setup) (most : ℕ) (lines : List Line) (s : State) → IsSetup t → most_of t ≤ most → IsRun t s → IsRun t (lines_done t.shape most lines s)

abbrev pub ClosedStays : Type 0
ClosedStays = (t : Setup) (most : ℕ) (s : State) → IsSetup t → most_of t ≤ most → IsRun t s → IsRun t (closed t.shape most s)

-- ---- and each of these ends
-- THE NUMBER OF EVENTS IS ENOUGH: with a greater one a caller goes no further
abbrev pub DrivesAreEnough : Type 0
DrivesAreEnough = (t : Setup) (most c : ℕ) (goal : Goal) (n : ℕ) (s : State) → IsSetup t → most_of t ≤ most → IsRun t s
    → drive t.shape most c goal n s ≡ drive t.shape (most_of t) c goal n s

-- the restart is over
abbrev pub RestartEnds : Type 0
RestartEnds = (t : Setup) (most : ℕ) (s : State) → IsSetup t → most_of t ≤ most → IsRun t s → (op : RestartOp) → (restarted t.shape most s).keeper ≡ Restarting op → ⊥

-- and has left the image to the callers, where it was not over
abbrev pub RestartOpens : Type 0
RestartOpens = (t : Setup) (most : ℕ) (s : State) (op : RestartOp) → IsSetup t → most_of t ≤ most → IsRun t s → s.keeper ≡ Restarting op
    → (restarted t.shape most s).keeper ≡ Open

-- the close has begun
abbrev pub IsShut : Keeper → Type 0
IsShut (Restarting op) = ⊥
IsShut Open = ⊥
IsShut (Closing op) = ⊤
IsShut Closed = ⊤

abbrev pub RunOutEnds : Type 0
RunOutEnds = (t : Setup) (most : ℕ) (s : State) → IsSetup t → most_of t ≤ most → IsRun t s → IsShut (run_out t.shape most s).keeper

-- the close has ended
abbrev pub ClosedEnds : Type 0
ClosedEnds = (t : Setup) (most : ℕ) (s : State) → IsSetup t → most_of t ≤ most → IsRun t s → (closed t.shape most s).keeper ≡ Closed

-- ---- the run
-- THE RUN is one, whatever its lines are, and without a cut the image is closed at its end
pub record IsWellRun (t : Setup) (lines : List Line) : Type 0 where
  pub is_run : IsRun t (core_run t.shape (start_of t) t.scripts lines)
  pub is_closed : cut_of lines ≡ None → (core_run t.shape (start_of t) t.scripts lines).keeper ≡ Closed

abbrev pub RunsAreWell : Type 0
RunsAreWell = (t : Setup) (lines : List Line) → IsSetup t → IsWellRun t lines
