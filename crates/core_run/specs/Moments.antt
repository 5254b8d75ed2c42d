-- The moments of a run. A run is one act after another: each is an event of a caller, of which caller 0 restarts the image and
-- closes it, or the beginning of the close. A moment is the time before its first act, between two of them, or after its last.
-- At each of them whatever a power cut may leave is sound, and holds the map of the history so far, open calls whole or absent.
use Rattle.std.specs.Prelude.{◌≡◌, ℕ, ◌⊎◌, Option, None, Some, List, [], ◌∷◌, take, if◌then◌else◌}
use Rattle.trace.specs.Events.{Event, Trace}
use Rattle.image_layout.specs.Places.{Shape}
use Rattle.script_text.specs.declared.line.Line.{Line}
use Rattle.map_model.specs.Map.{Map}
use Rattle.session.specs.Left.{HasPairsOf}
use Rattle.restart_op.specs.Close.{begun as close_begun}
use Rattle.core_run.specs.declared.keeper.Keeper.{Keeper}
use Rattle.core_run.specs.declared.keeper.Keeper.TheVariants.{Open, Closing}
use Rattle.core_run.specs.State.{State, Deed, deed}
use Rattle.core_run.specs.Run.{has_calls, lines_done}
use Rattle.core_run.specs.Running.{Setup, IsSetup, start_of}
use Rattle.core_run.specs.States.{IsGoodMoment}
use Rattle.core_run.specs.Ends.{most_of}
use Rattle.core_run.specs.Sessions.{end_state}
use Rattle.core_run.specs.Wells.{start_state}

-- an act: the next event of this caller, or the beginning of the close
pub data Act : Type 0 where
  event_by : ℕ → Act
  begins_close : Act

-- the state after an event, where the caller has one
abbrev pub after_event : Option Deed → State → State
after_event None s = s
after_event (Some d) s = d.state

module _ (shape : Shape) where
  -- the close begins where the image is open and no caller has a call left; whether one has does not depend on a number of events, so
  -- that number is 0 here
  abbrev pub after_beginning : Keeper → State → State
  after_beginning Open s = if has_calls shape 0 s.core.callers then s else record s { keeper = Closing (close_begun shape) }
  after_beginning keeper s = s

  -- THE STATE AFTER AN ACT, which is the one before it where there is nothing to do
  abbrev pub after_act : Act → State → State
  after_act (event_by c) s = after_event (deed shape c s) s
  after_act begins_close s = after_beginning s.keeper s

  -- and after one act after another
  abbrev pub after_acts : List Act → State → State
  after_acts [] s = s
  after_acts (a ∷ acts) s = after_acts acts (after_act a s)

-- an act does one event at the most, so that no moment between two events is left out
abbrev pub IsOneMore : Trace → Trace → Type 0
IsOneMore before after = (after ≡ before) ⊎ ((e : Event) × (after ≡ e ∷ before))

abbrev pub ActsAreSingle : Type 0
ActsAreSingle = (shape : Shape) (a : Act) (s : State) → IsOneMore s.core.trace (after_act shape a s).core.trace

-- the state of a run when the first n of its acts are done
abbrev pub moment : Setup → List Act → ℕ → State
moment t acts n = after_acts t.shape (take n acts) (start_state t)

-- WHATEVER IS DONE, IN WHATEVER ORDER, by up to 64 callers: the moment is good
abbrev pub MomentsOfRuns : Type 0
MomentsOfRuns = (t : Setup) (opening : Map) (acts : List Act) → IsSetup t → HasPairsOf t.shape (start_of t) opening → IsGoodMoment t opening (after_acts t.shape acts (start_state t))

-- a run of these lines is these acts: at its end all are done, and after each of its lines the first so many
pub record IsRunOf (t : Setup) (lines : List Line) (acts : List Act) : Type 0 where
  pub ends : end_state t lines ≡ after_acts t.shape acts (start_state t)
  pub between : (k : ℕ) → (n : ℕ) × (lines_done t.shape (most_of t) (take k lines) (start_state t) ≡ moment t acts n)

-- EVERY MOMENT OF A RUN IS GOOD, whatever its lines are
abbrev pub EveryMomentIsGood : Type 0
EveryMomentIsGood = (t : Setup) (lines : List Line) (opening : Map) → IsSetup t → HasPairsOf t.shape (start_of t) opening
    → (acts : List Act) × IsRunOf t lines acts × ((n : ℕ) → IsGoodMoment t opening (moment t acts n))
