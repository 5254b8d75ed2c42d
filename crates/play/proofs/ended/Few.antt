-- A play leaves no more replies than its script has lines.
use Rattle.std.proofs.Common.{◌≡◌, ℕ, suc, ◌≤◌, List, [], ◌∷◌, length, map, refl, ap, ◌∙◌, arith}
use Rattle.image_layout.specs.Places.{Shape}
use Rattle.map_model.specs.declared.call.Call.{Call}
use Rattle.map_model.specs.Roomed.{Roomed, lists_of}
use Rattle.script_text.specs.declared.line.Line.{Line}
use Rattle.script_text.specs.Calls.{last_caller}
use Rattle.reply_text.specs.Told.{replies_in}
use Rattle.core_run.specs.Engines.{Caller, Core}
use Rattle.core_run.specs.declared.keeper.Keeper.{Keeper}
use Rattle.core_run.specs.declared.keeper.Keeper.TheVariants.{Restarting, Open, Closing, Closed}
use Rattle.core_run.specs.State.{State, waiting_from}
use Rattle.core_run.specs.Run.{all_calls}
use Rattle.core_run.specs.Running.{Setup, IsRunningBy}
use Rattle.play.specs.declared.run_state.RunState.{RunState}
use Rattle.play.specs.declared.caller.Caller.{Caller as PlayCaller}
use Rattle.play.specs.Callers.{callers_of, HaveRoom}
use Rattle.play.specs.RunStates.{Stands}
use Rattle.play.specs.Played.{scripts_of}
use Rattle.play.proofs.ended.Whole.{few_calls}

abbrev calls_in_core : List Caller → List (List Call)
calls_in_core callers = map (λ (c : Caller). c.calls) callers

-- in each state of a run its callers have the calls of the scripts
waiting_calls : (shape : Shape) (n : ℕ) (scripts : List (List Call)) → calls_in_core (waiting_from shape n scripts) ≡ scripts
waiting_calls shape n [] = refl
waiting_calls shape n (calls ∷ scripts) = ap (λ (css : List (List Call)). calls ∷ css) (waiting_calls shape (suc n) scripts)

calls_by : (t : Setup) (k : Keeper) (core : Core) → IsRunningBy t k core → calls_in_core core.callers ≡ t.scripts
calls_by t (Restarting op) core r = ap calls_in_core r.callers_are ∙ waiting_calls t.shape 1 t.scripts
calls_by t Open core r = r.scripts
calls_by t (Closing op) core r = ap calls_in_core r.0.callers_are ∙ r.0.was_open.scripts
calls_by t Closed core r = ap calls_in_core r.1.callers_are ∙ r.1.was_open.scripts

-- and no caller has more entries than calls
within_calls : (callers : List PlayCaller) (lists : List Roomed) → HaveRoom callers lists
    → replies_in (lists_of lists) ≤ all_calls (calls_in_core (callers_of callers lists))
within_calls [] [] room = omega arith
within_calls [] (k ∷ lists) room = absurd room
within_calls (r ∷ callers) [] room = absurd room
within_calls (r ∷ callers) (k ∷ lists) room =
    let here = room.0.spare in
    let rest = within_calls callers lists room.1 in
    omega arith

pub few_replies : (t : Setup) (s : State) (lines : List Line) (run_state : RunState) → Stands t s run_state → t.scripts ≡ scripts_of lines
    → replies_in (lists_of run_state.lists) ≤ length lines
few_replies t s lines run_state st scripts =
    let within = within_calls run_state.callers.items run_state.lists st.is_of.room in
    let same : all_calls (calls_in_core (callers_of run_state.callers.items run_state.lists)) ≡ all_calls (scripts_of lines) =
    ap (λ (callers : List Caller). all_calls (calls_in_core callers)) st.is_of.its_callers ∙ ap all_calls (calls_by t s.keeper s.core st.running ∙ scripts) in
    let few : all_calls (scripts_of lines) ≤ length lines = few_calls 1 (last_caller lines) lines in
    omega arith
