-- What the program's run state is to a state of a run as it is defined, and what an event makes of it.
use Rattle.std.specs.Prelude.{◌≡◌, ℕ, suc, Option, None, Some}
use Rattle.trace.specs.Events.{value}
use Rattle.map_model.specs.Weave.{most_callers}
use Rattle.image_layout.specs.Places.{Shape}
use Rattle.pm_trace.specs.TraceOf.{IsTraceOf}
use Rattle.core_run.specs.declared.deed.Deed.{Deed as ToldDeed}
use Rattle.core_run.specs.declared.goal.Goal.{Goal}
use Rattle.core_run.specs.State.{State, Deed}
use Rattle.core_run.specs.Run.{drive, closed, ends_call, ends_in_again}
use Rattle.core_run.specs.Running.{Setup, IsSetup, IsRunning, start_of}
use Rattle.play.specs.declared.run_state.RunState.{RunState}
use Rattle.play.specs.Callers.{callers_of, HaveRoom}

-- THE RUN STATE stands for this state: its memory came from the state's events, and its callers, with their lists, are the state's
pub record IsOf (t : Setup) (run_state : RunState) (s : State) : Type 0 where
  pub shape : run_state.device.shape ≡ t.shape
  pub callers : run_state.device.callers ≡ most_callers
  pub traced : IsTraceOf (start_of t) s.core.trace run_state.device
  pub words : s.core.words ≡ value (start_of t) s.core.trace
  pub keeper : run_state.keeper ≡ s.keeper
  pub its_callers : callers_of run_state.callers.items run_state.lists ≡ s.core.callers
  pub room : HaveRoom run_state.callers.items run_state.lists

-- it stands there in a run that was set up so
pub record Stands (t : Setup) (s : State) (run_state : RunState) : Type 0 where
  pub setup : IsSetup t
  pub is_of : IsOf t run_state s
  pub running : IsRunning t s

-- it stands somewhere
abbrev pub StandsSomewhere : RunState → Type 0
StandsSomewhere run_state = (t : Setup) × (s : State) × Stands t s run_state

-- an event was done, and left this run state
pub record IsAfter (t : Setup) (told : ToldDeed) (d : Deed) (run_state : RunState) : Type 0 where
  pub want : told.want ≡ d.want
  pub replied : told.replied ≡ ends_call d.end
  pub again : told.again ≡ ends_in_again d.end
  pub tried : told.tried ≡ d.tried
  pub waits : told.waits ≡ d.waits
  pub left : IsOf t run_state d.state

-- what became of an event that a caller was to do, where the definitions have this one: the run state stands where they say
abbrev pub HasDone : Setup → State → Option ToldDeed → Option Deed → RunState → Type 0
HasDone t s None None run_state = Stands t s run_state
HasDone t s None (Some d) run_state = ⊥
HasDone t s (Some told) None run_state = ⊥
HasDone t s (Some told) (Some d) run_state = IsAfter t told d run_state × IsRunning t d.state

-- ONE EVENT of a drive: how many are then to be counted, or the drive ends
abbrev pub HasTurned : Setup → State → ℕ → Goal → ℕ → Option ℕ → RunState → Type 0
HasTurned t s number goal left None run_state = (next : State) × Stands t next run_state
    × ((most : ℕ) → drive t.shape (suc most) number goal left s ≡ next)
HasTurned t s number goal left (Some more) run_state = (next : State) × Stands t next run_state
    × ((most : ℕ) → drive t.shape (suc most) number goal left s ≡ drive t.shape most number goal more next)

-- the state at the end of a run, after its lines
abbrev pub end_state : Shape → ℕ → Option ℕ → State → State
end_state shape most None s = closed shape most s
end_state shape most (Some choice) s = s
