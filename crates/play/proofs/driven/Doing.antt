-- A run state does the event that the definitions give a caller.
use Rattle.std.proofs.Common.{◌≡◌, ℕ, suc, ◌+◌, ◌*◌, ◌<◌, ◌≤◌, Option, None, Some, List, [], ◌∷◌, length, refl, ap, sym, ◌∙◌, subst, arith}
use Rattle.std.specs.Prelude.{slice_get}
use Rattle.std.proofs.lemmas.Option.{slice_get_within}
use Rattle.std.proofs.lemmas.List.{length-map}
use Rattle.op_core.specs.declared.want.Want.{Want}
use Rattle.image_layout.specs.Places.{Shape, words_of}
use Rattle.image_layout.specs.Volatile.{all_words_of}
use Rattle.map_model.specs.declared.call.Call.{Call}
use Rattle.map_model.specs.Roomed.{Roomed}
use Rattle.world.specs.Wants.{word_of}
use Rattle.restart_op.specs.declared.restart.RestartOp.{RestartOp}
use Rattle.core_run.specs.Engines.{Engine, wanted, Caller, Core}
use Rattle.core_run.specs.declared.deed.Deed.{Deed as ToldDeed}
use Rattle.core_run.specs.declared.keeper.Keeper.{Keeper}
use Rattle.core_run.specs.declared.keeper.Keeper.TheVariants.{Restarting, Open, Closing, Closed}
use Rattle.core_run.specs.State.{State, Deed, waiting, waiting_from, keeper_deed, call_deed, caller_deed, open_deed, engine_deed, deed}
use Rattle.core_run.specs.Running.{Setup, IsRunningBy, IsRestarting, MayBeDone, DeedsAreWell}
use Rattle.play.specs.declared.run_state.RunState.{RunState}
use Rattle.play.specs.declared.caller.Caller.{Caller as PlayCaller}
use Rattle.play.specs.declared.caller.RunningCall.{RunningCall}
use Rattle.play.specs.Callers.{caller_of, callers_of, running_with, HaveRoom}
use Rattle.keeping.specs.Asked.{MayBeAsked}
use Rattle.play.specs.RunStates.{IsOf, Stands, IsAfter, HasDone}
use Rattle.play.specs.Deeds.{NoneTold, MayGo, running_in}
use Rattle.play.proofs.driven.Listed.{listed_at, none_listed, callers_many}

-- ---- what a memory can do
asked : (t : Setup) (s : State) (run_state : RunState) (number : ℕ) (w : Want) → IsOf t run_state s → number ≤ 64 → MayBeDone t number s.core w → MayBeAsked number w run_state.device
asked t s run_state number w is low may = record {
  caller_is = let e = is.callers in omega arith;
  word = subst (λ (shape : Shape). word_of shape w < all_words_of shape) (sym is.shape) may.word;
  line = λ l e. subst (λ (shape : Shape). 8 * l + 8 ≤ words_of shape) (sym is.shape) (may.line l e);
  few = λ l e. let a = may.few l e in let b = is.traced.once number in omega arith;
  some = may.some;
}

pub deed_may : DeedsAreWell → (t : Setup) (s : State) (run_state : RunState) (number : ℕ) (d : Deed) → Stands t s run_state → number ≤ 64 → deed t.shape number s ≡ Some d
    → MayBeAsked number d.want run_state.device
deed_may well t s run_state number d st low is = asked t s run_state number d.want st.is_of low (well t number s d st.setup st.running is).may

pub has_done : DeedsAreWell → (t : Setup) (s : State) (old new : RunState) (number : ℕ) (d : Deed) (told : ToldDeed) → Stands t s old → deed t.shape number s ≡ Some d
    → IsAfter t told d new → HasDone t s (Some told) (deed t.shape number s) new
has_done well t s old new number d told st is after =
    subst (λ (o : Option Deed). HasDone t s (Some told) o new) (sym is) (after, (well t number s d st.setup st.running is).after)

pub has_none : (t : Setup) (s : State) (run_state : RunState) (number : ℕ) → Stands t s run_state → deed t.shape number s ≡ None → HasDone t s None (deed t.shape number s) run_state
has_none t s run_state number st is = subst (λ (o : Option Deed). HasDone t s None o run_state) (sym is) st

-- ---- the keeper
pub keeper_is : (t : Setup) (s : State) (run_state : RunState) (k : Keeper) → IsOf t run_state s → run_state.keeper ≡ k → s.keeper ≡ k
keeper_is t s run_state k is e = sym is.keeper ∙ e

pub deed_of_keeper : (t : Setup) (s : State) (run_state : RunState) (k : Keeper) → IsOf t run_state s → run_state.keeper ≡ k → deed t.shape 0 s ≡ keeper_deed t.shape k s.core
deed_of_keeper t s run_state k is e = ap (λ (l : Keeper). keeper_deed t.shape l s.core) (keeper_is t s run_state k is e)

none_told : (shape : Shape) (n : ℕ) (scripts : List (List Call)) (callers : List PlayCaller) (lists : List Roomed) → HaveRoom callers lists
    → callers_of callers lists ≡ waiting_from shape n scripts → NoneTold lists
none_told shape n scripts [] [] room e = tt
none_told shape n scripts [] (k ∷ lists) room e = absurd room
none_told shape n scripts (r ∷ callers) [] room e = absurd room
none_told shape n [] (r ∷ callers) (k ∷ lists) room e = absurd (cc)
none_told shape n (calls ∷ scripts) (r ∷ callers) (k ∷ lists) room e =
    let head : caller_of r k.entries ≡ waiting shape n calls = cc in
    (ap (λ (c : Caller). c.entries) head, none_told shape (suc n) scripts callers lists room.1 (cc))

pub none_told_yet : (t : Setup) (s : State) (run_state : RunState) (op : RestartOp) → Stands t s run_state → run_state.keeper ≡ Restarting op → NoneTold run_state.lists
none_told_yet t s run_state op st e =
    let running : IsRestarting t op s.core = subst (λ (k : Keeper). IsRunningBy t k s.core) (keeper_is t s run_state (Restarting op) st.is_of e) st.running in
    none_told t.shape 1 t.scripts run_state.callers.items run_state.lists st.is_of.room (st.is_of.its_callers ∙ running.callers_are)

-- ---- how many callers there are
waiting_many : (shape : Shape) (n : ℕ) (scripts : List (List Call)) → length (waiting_from shape n scripts) ≡ length scripts
waiting_many shape n [] = refl
waiting_many shape n (calls ∷ scripts) = ap suc (waiting_many shape (suc n) scripts)

callers_by : (t : Setup) (k : Keeper) (core : Core) → IsRunningBy t k core → length core.callers ≡ length t.scripts
callers_by t (Restarting op) core r = ap length r.callers_are ∙ waiting_many t.shape 1 t.scripts
callers_by t Open core r = sym (length-map core.callers (λ c. c.calls)) ∙ ap length r.scripts
callers_by t (Closing op) core r = ap length r.0.callers_are ∙ sym (length-map r.0.before.callers (λ c. c.calls)) ∙ ap length r.0.was_open.scripts
callers_by t Closed core r = ap length r.1.callers_are ∙ sym (length-map r.1.before.callers (λ c. c.calls)) ∙ ap length r.1.was_open.scripts

pub callers_as_scripts : (t : Setup) (s : State) (run_state : RunState) → Stands t s run_state → length run_state.callers.items ≡ length t.scripts
callers_as_scripts t s run_state st =
    sym (callers_many run_state.callers.items run_state.lists st.is_of.room) ∙ ap length st.is_of.its_callers ∙ callers_by t s.keeper s.core st.running

-- and those are few
pub callers_few : (t : Setup) (s : State) (run_state : RunState) → Stands t s run_state → length run_state.callers.items ≤ 64
callers_few t s run_state st =
    let many = callers_as_scripts t s run_state st in
    let few = st.setup.few in
    omega arith

pub index_few : (t : Setup) (s : State) (run_state : RunState) (index : ℕ) (r : PlayCaller) → Stands t s run_state → slice_get run_state.callers.items index ≡ Some r → index < 64
index_few t s run_state index r st is =
    let within = slice_get_within run_state.callers.items index r is in
    let few = callers_few t s run_state st in
    omega arith

-- ---- a caller
pub record IsRunningCaller (k : Keeper) (o : Option PlayCaller) (run : RunningCall) : Type 0 where
  pub caller : PlayCaller
  pub engine : Engine
  pub opened : k ≡ Open
  pub is_there : o ≡ Some caller
  pub is_current : slice_get caller.calls.items caller.ended ≡ Some run.call
  pub its_engine : caller.engine ≡ Some engine
  pub wants : wanted engine ≡ run.want

running_by_some : (r : PlayCaller) (call : Option Call) (e : Option Engine) (run : RunningCall) → slice_get r.calls.items r.ended ≡ call → r.engine ≡ e
    → running_with call e ≡ Some run → IsRunningCaller Open (Some r) run
running_by_some r None e run current its h = absurd (cc)
running_by_some r (Some call) None run current its h = absurd (cc)
running_by_some r (Some call) (Some e) run current its h =
    let same : record { call = call; want = wanted e } ≡ run = cc in
    record {
      caller = r;
      engine = e;
      opened = refl;
      is_there = refl;
      is_current = current ∙ ap (λ (q : RunningCall). Some q.call) same;
      its_engine = its;
      wants = ap (λ (q : RunningCall). q.want) same;
    }

running_some : (k : Keeper) (o : Option PlayCaller) (run : RunningCall) → running_in k o ≡ Some run → IsRunningCaller k o run
running_some (Restarting op) o run h = absurd (cc)
running_some (Closing op) o run h = absurd (cc)
running_some Closed o run h = absurd (cc)
running_some Open None run h = absurd (cc)
running_some Open (Some r) run h = running_by_some r (slice_get r.calls.items r.ended) r.engine run refl refl h

pub may_go : (run_state : RunState) (index : ℕ) (run : RunningCall) → HaveRoom run_state.callers.items run_state.lists
    → running_in run_state.keeper (slice_get run_state.callers.items index) ≡ Some run → MayGo index run.call run.want run_state
may_go run_state index run room h =
    let is = running_some run_state.keeper (slice_get run_state.callers.items index) run h in
    record {
      caller = is.caller;
      engine = is.engine;
      is_there = is.is_there;
      is_current = is.is_current;
      its_engine = is.its_engine;
      wants = is.wants;
      room = room;
    }

pub is_open : (run_state : RunState) (index : ℕ) (run : RunningCall) → running_in run_state.keeper (slice_get run_state.callers.items index) ≡ Some run → run_state.keeper ≡ Open
is_open run_state index run h = (running_some run_state.keeper (slice_get run_state.callers.items index) run h).opened

call_none : (shape : Shape) (index : ℕ) (core : Core) (caller : Caller) (call : Option Call) (e : Option Engine) → running_with call e ≡ None
    → call_deed shape index core caller call e ≡ None
call_none shape index core caller None e h = refl
call_none shape index core caller (Some call) None h = refl
call_none shape index core caller (Some call) (Some e) h = absurd (cc)

open_none : (shape : Shape) (k : Keeper) (callers : List PlayCaller) (lists : List Roomed) (index : ℕ) (core : Core) (o : Option PlayCaller) → HaveRoom callers lists
    → slice_get callers index ≡ o → running_in k o ≡ None → callers_of callers lists ≡ core.callers → open_deed shape index k core ≡ None
open_none shape (Restarting op) callers lists index core o room is h same = refl
open_none shape (Closing op) callers lists index core o room is h same = refl
open_none shape Closed callers lists index core o room is h same = refl
open_none shape Open callers lists index core None room is h same =
    ap (λ (c : Option Caller). caller_deed shape index core c) (ap (λ cs. slice_get cs index) (sym same) ∙ none_listed callers lists index is)
open_none shape Open callers lists index core (Some r) room is h same =
    let listed = listed_at callers lists index r room is in
    ap (λ (c : Option Caller). caller_deed shape index core c) (ap (λ cs. slice_get cs index) (sym same) ∙ listed.its_caller)
    ∙ call_none shape index core (caller_of r listed.kept.entries) (slice_get r.calls.items (length listed.kept.entries)) r.engine
    (ap (λ (n : ℕ). running_with (slice_get r.calls.items n) r.engine) (sym listed.room.counted) ∙ h)

pub no_deed : (t : Setup) (s : State) (run_state : RunState) (index : ℕ) → IsOf t run_state s → running_in run_state.keeper (slice_get run_state.callers.items index) ≡ None
    → deed t.shape (suc index) s ≡ None
no_deed t s run_state index is h =
    ap (λ (k : Keeper). open_deed t.shape index k s.core) (sym is.keeper)
    ∙ open_none t.shape run_state.keeper run_state.callers.items run_state.lists index s.core (slice_get run_state.callers.items index) is.room refl h is.its_callers

-- the caller whose event it is
pub record HasEvent (t : Setup) (s : State) (index : ℕ) (call : Call) (e : Engine) : Type 0 where
  pub caller : Caller
  pub is_there : slice_get s.core.callers index ≡ Some caller
  pub its_deed : deed t.shape (suc index) s ≡ Some (engine_deed t.shape index s.core caller call e)

pub has_event : (t : Setup) (s : State) (run_state : RunState) (index : ℕ) (call : Call) (w : Want) → IsOf t run_state s → run_state.keeper ≡ Open
    → (may : MayGo index call w run_state) → HasEvent t s index call may.engine
has_event t s run_state index call w is opened may =
    let listed = listed_at run_state.callers.items run_state.lists index may.caller is.room may.is_there in
    let caller : Caller = caller_of may.caller listed.kept.entries in
    let there : slice_get s.core.callers index ≡ Some caller = ap (λ cs. slice_get cs index) (sym is.its_callers) ∙ listed.its_caller in
    let at_call : slice_get may.caller.calls.items (length listed.kept.entries) ≡ Some call =
    ap (λ (n : ℕ). slice_get may.caller.calls.items n) (sym listed.room.counted) ∙ may.is_current in
    record {
      caller = caller;
      is_there = there;
      its_deed =
          ap (λ (k : Keeper). open_deed t.shape index k s.core) (keeper_is t s run_state Open is opened)
          ∙ ap (λ (c : Option Caller). caller_deed t.shape index s.core c) there
          ∙ ap (λ (o : Option Call). call_deed t.shape index s.core caller o may.caller.engine) at_call
          ∙ ap (λ (o : Option Engine). call_deed t.shape index s.core caller (Some call) o) may.its_engine;
    }
