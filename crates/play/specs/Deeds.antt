-- What the parts of an event make of a run state, for each state that it may be in.
use Rattle.std.specs.Prelude.{◌≡◌, ◌<◌, ℕ, ⊤, Option, None, Some, List, [], ◌∷◌, length, map, slice_get, slice_set}
use Rattle.map_model.specs.declared.call.Call.{Call}
use Rattle.map_model.specs.declared.entry.Entry.{Entry}
use Rattle.map_model.specs.Roomed.{Roomed, with_entry}
use Rattle.op_core.specs.declared.want.Want.{Want}
use Rattle.op_core.specs.declared.want.Want.TheVariants as want
use Rattle.core_run.specs.Engines.{Engine, wanted, end_of, reply_of_end, ended, Caller}
use Rattle.core_run.specs.Run.{ends_call, ends_in_again}
use Rattle.restart_op.specs.declared.restart.RestartOp.{RestartOp}
use Rattle.restart_op.specs.declared.close.CloseOp.{CloseOp}
use Rattle.core_run.specs.declared.deed.Deed.{Deed as ToldDeed}
use Rattle.core_run.specs.declared.keeper.Keeper.{Keeper}
use Rattle.core_run.specs.declared.keeper.Keeper.TheVariants.{Restarting, Open, Closing, Closed}
use Rattle.core_run.specs.State.{State, started_by, restart_deed, close_deed, engine_deed, deed}
use Rattle.core_run.specs.Running.{Setup}
use Rattle.play.specs.declared.caller.Caller.{Caller as PlayCaller}
use Rattle.play.specs.declared.caller.RunningCall.{RunningCall}
use Rattle.play.specs.declared.run_state.RunState.{RunState}
use Rattle.play.specs.declared.deeds.Ending.{Ending}
use Rattle.play.specs.Callers.{caller_of, running_by, awoken, told_with, counted_with, HaveRoom}
use Rattle.play.specs.RunStates.{IsOf, Stands, IsAfter, HasDone}

-- no caller was told anything yet
abbrev pub NoneTold : List Roomed → Type 0
NoneTold [] = ⊤
NoneTold (k ∷ lists) = (k.entries ≡ []) × NoneTold lists

-- the call of a caller and the event that it wants, while there are callers' events
abbrev pub running_of : Option PlayCaller → Option RunningCall
running_of None = None
running_of (Some r) = running_by r

abbrev pub running_in : Keeper → Option PlayCaller → Option RunningCall
running_in (Restarting op) caller = None
running_in Open caller = running_of caller
running_in (Closing op) caller = None
running_in Closed caller = None

-- the caller at an index runs this call, and its engine wants this event
pub record MayGo (index : ℕ) (call : Call) (w : Want) (run_state : RunState) : Type 0 where
  pub caller : PlayCaller
  pub engine : Engine
  pub is_there : slice_get run_state.callers.items index ≡ Some caller
  pub is_current : slice_get caller.calls.items caller.ended ≡ Some call
  pub its_engine : caller.engine ≡ Some engine
  pub wants : wanted engine ≡ w
  pub room : HaveRoom run_state.callers.items run_state.lists

-- the attempt of the caller at an index, which is in this call, has ended, and there is room for an entry
pub record HasCome (index : ℕ) (call : Call) (r : PlayCaller) (e : Engine) (run_state : RunState) : Type 0 where
  pub kept : Roomed
  pub is_there : slice_get run_state.callers.items index ≡ Some r
  pub is_current : slice_get r.calls.items r.ended ≡ Some call
  pub its_engine : r.engine ≡ Some e
  pub is_done : wanted e ≡ want.Done
  pub its_list : slice_get run_state.lists index ≡ Some kept
  pub spare : 0 < kept.spare

-- the lists with an entry, where there is one
abbrev pub lists_with : List Roomed → ℕ → Option Entry → List Roomed
lists_with lists index None = lists
lists_with lists index (Some e) = with_entry lists index e

-- what a caller whose attempt ended so leaves: itself as it goes on, the entry of its call, if that has ended too, and what ended
pub record HasEnded (index : ℕ) (call : Call) (r : PlayCaller) (e : Engine) (old : RunState) (ending : Ending) (new : RunState) : Type 0 where
  pub after : PlayCaller
  pub entry : Option Entry
  pub caller : (told : List Entry) → length told ≡ r.ended → caller_of after (told_with entry told) ≡ ended (caller_of r told) call (end_of e) (reply_of_end (end_of e))
  pub count : after.ended ≡ counted_with entry r.ended
  pub calls : after.calls ≡ r.calls
  pub replied : ending.replied ≡ ends_call (Some (end_of e))
  pub again : ending.again ≡ ends_in_again (Some (end_of e))
  pub callers : new.callers.items ≡ slice_set old.callers.items index after
  pub lists : new.lists ≡ lists_with old.lists index entry
  pub device : new.device ≡ old.device
  pub keeper : new.keeper ≡ old.keeper

-- the keeper and the callers after an event of the restart, by what it wants next
abbrev pub restarting_keeper : RestartOp → Want → Keeper
restarting_keeper op want.Done = Open
restarting_keeper op w = Restarting op

abbrev pub restarting_callers : RestartOp → Want → List PlayCaller → List PlayCaller
restarting_callers op want.Done callers = map (awoken (started_by op).version) callers
restarting_callers op w callers = callers

-- ---- what an event makes of the run state, whatever the state
abbrev pub FollowsRestart : RestartOp → RunState → ToldDeed → RunState → Type 0
FollowsRestart op old told new = (t : Setup) (s : State) → IsOf t old s → NoneTold old.lists → IsAfter t told (restart_deed t.shape op s.core) new

abbrev pub FollowsClose : CloseOp → RunState → ToldDeed → RunState → Type 0
FollowsClose op old told new = (t : Setup) (s : State) → IsOf t old s → IsAfter t told (close_deed t.shape op s.core) new

abbrev pub FollowsCall : ℕ → Call → Engine → RunState → ToldDeed → RunState → Type 0
FollowsCall index call e old told new = (t : Setup) (s : State) (caller : Caller) → IsOf t old s → s.keeper ≡ Open
    → slice_get s.core.callers index ≡ Some caller → IsAfter t told (engine_deed t.shape index s.core caller call e) new

-- the deed of the caller with this number, of which 0 is the keeper
abbrev pub FollowsDeed : ℕ → RunState → Option ToldDeed → RunState → Type 0
FollowsDeed number old told new = (t : Setup) (s : State) → Stands t s old → HasDone t s told (deed t.shape number s) new
