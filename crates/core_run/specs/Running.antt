-- What holds of the state of a run between any two events.
use Rattle.std.specs.Prelude.{◌≡◌, ℕ, suc, ◌<◌, ◌≤◌, ⊤, Option, None, Some, List, [], ◌∷◌, length, map, take, slice_index}
use Rattle.std.specs.List.{AllByRecursion}
use Rattle.op_core.specs.declared.want.Want.{Want}
use Rattle.op_core.specs.declared.want.Want.TheVariants.{Flush, Done}
use Rattle.trace.specs.Events.{Words, Trace, HasLine, most_unfenced}
use Rattle.trace.specs.Progress.{pending}
use Rattle.image_layout.specs.Places.{Shape, state_word, words_of}
use Rattle.image_layout.specs.Volatile.{all_words_of}
use Rattle.map_model.specs.declared.call.Call.{Call}
use Rattle.map_model.specs.declared.entry.Entry.{Entry}
use Rattle.map_model.specs.Weave.{most_callers, first_caller, keeper_number}
use Rattle.world.specs.Ground.{Ground}
use Rattle.world.specs.Wants.{word_of}
use Rattle.restart_op.specs.declared.restart.RestartOp.{RestartOp}
use Rattle.restart_op.specs.declared.close.CloseOp.{CloseOp}
use Rattle.restart_op.specs.Close.{wanted as close_wanted}
use Rattle.restart_op.specs.Budget.{events_of_restart}
use Rattle.restart_op.specs.Restarted.{restarted, site_of}
use Rattle.restart_op.specs.Closing.{close_after}
use Rattle.engine.specs.declared.engine.Engine.{Engine}
use Rattle.engine.specs.Left.{waiting}
use Rattle.engine.specs.Fits.{IsWordCall}
use Rattle.engine.specs.Core.{Caller, current, Core}
use Rattle.engine.specs.Holding.{CoreHolds}
use Rattle.engine.specs.Laws.{IsServedImage}
use Rattle.core_run.specs.declared.keeper.Keeper.{Keeper}
use Rattle.core_run.specs.declared.keeper.Keeper.TheVariants.{Restarting, Open, Closing, Closed}
use Rattle.core_run.specs.State.{State, Deed, deed, waiting_from}

-- what a run is set up with: a sound image that is served, and the calls of callers 1, 2 and so on, 64 at the most
pub record Setup : Type 0 where
  pub shape : Shape
  pub first : List ℕ
  pub scripts : List (List Call)

pub record IsSetup (t : Setup) : Type 0 where
  pub served : IsServedImage t.shape t.first
  pub few : length t.scripts ≤ most_callers
  pub words : AllByRecursion (AllByRecursion IsWordCall) t.scripts

-- where the callers run
abbrev pub site_in : Setup → Ground
site_in t = site_of t.shape t.first (length t.scripts)

abbrev pub start_of : Setup → Words
start_of t = slice_index t.first

-- a caller waits for no more lines than its engine says
abbrev pub WaitsFor : Trace → ℕ → Option Engine → Type 0
WaitsFor trace number None = pending number trace ≡ []
WaitsFor trace number (Some e) = length (pending number trace) ≤ waiting e

abbrev pub FewWait : Trace → ℕ → List Caller → Type 0
FewWait trace number [] = ⊤
FewWait trace number (c ∷ callers) = WaitsFor trace number c.engine × FewWait trace (suc number) callers

-- a caller's entries are of the first of its calls, and that of the call that runs is of the next; it is numbered by its place
-- among the callers
pub record HasToldInOrder (t : Setup) (version number : ℕ) (c : Caller) : Type 0 where
  pub its_calls : map (λ e. e.call) c.entries ≡ take (length c.entries) c.calls
  pub within : length c.entries ≤ length c.calls
  pub drawn : (e : Entry) → c.drew ≡ Some e → current c ≡ Some e.call
  pub here : c.site ≡ record { geometry = t.shape; version = version; caller = number }

abbrev pub AllTold : Setup → ℕ → ℕ → List Caller → Type 0
AllTold t version number [] = ⊤
AllTold t version number (c ∷ callers) = HasToldInOrder t version number c × AllTold t version (suc number) callers

-- the image is open: the core holds
pub record IsOpen (t : Setup) (core : Core) : Type 0 where
  pub holds : CoreHolds (site_in t) (start_of t) core
  pub scripts : map (λ c. c.calls) core.callers ≡ t.scripts
  pub told : AllTold t (core.words state_word) first_caller core.callers
  pub few_wait : FewWait core.trace first_caller core.callers
  pub keeper_waits : pending keeper_number core.trace ≡ []

-- the restart has done some of its events
pub record IsRestarting (t : Setup) (op : RestartOp) (core : Core) : Type 0 where
  pub events : ℕ
  pub few : events < events_of_restart t.shape (slice_index t.first)
  pub op_is : op ≡ (restarted t.shape t.first events).op
  pub words_are : core.words ≡ (restarted t.shape t.first events).words
  pub trace_is : core.trace ≡ (restarted t.shape t.first events).trace
  pub callers_are : core.callers ≡ waiting_from t.shape first_caller t.scripts

-- all calls have run out, and the close has done some of its events
pub record IsClosing (t : Setup) (op : CloseOp) (core : Core) : Type 0 where
  pub before : Core
  pub was_open : IsOpen t before
  pub run_out : AllByRecursion (λ c. c.engine ≡ None) before.callers
  pub events : ℕ
  pub op_is : op ≡ (close_after t.shape before.words before.trace events).op
  pub words_are : core.words ≡ (close_after t.shape before.words before.trace events).words
  pub trace_is : core.trace ≡ (close_after t.shape before.words before.trace events).trace
  pub callers_are : core.callers ≡ before.callers

abbrev pub IsRunningBy : Setup → Keeper → Core → Type 0
IsRunningBy t (Restarting op) core = IsRestarting t op core
IsRunningBy t Open core = IsOpen t core
IsRunningBy t (Closing op) core = IsClosing t op core × (close_wanted op ≡ Done → ⊥)
IsRunningBy t Closed core = (op : CloseOp) × IsClosing t op core × (close_wanted op ≡ Done)

-- THE STATE is one of a run
abbrev pub IsRunning : Setup → State → Type 0
IsRunning t s = IsRunningBy t s.keeper s.core

-- ---- the laws
-- what a memory asks of an event of caller c: its word is one of the memory, its line one of the image, and fewer than eight
-- lines of the caller wait
pub record MayBeDone (t : Setup) (c : ℕ) (core : Core) (w : Want) : Type 0 where
  pub word : word_of t.shape w < all_words_of t.shape
  pub line : (l : ℕ) → w ≡ Flush l → HasLine (words_of t.shape) l
  pub few : (l : ℕ) → w ≡ Flush l → length (pending c core.trace) < most_unfenced
  pub some : w ≡ Done → ⊥

-- an event that a state has may be done, and leaves a state of the run
pub record DeedIsWell (t : Setup) (c : ℕ) (s : State) (d : Deed) : Type 0 where
  pub may : MayBeDone t c s.core d.want
  pub after : IsRunning t d.state

abbrev pub DeedsAreWell : Type 0
DeedsAreWell = (t : Setup) (c : ℕ) (s : State) (d : Deed) → IsSetup t → IsRunning t s → deed t.shape c s ≡ Some d → DeedIsWell t c s d
