-- Each event leaves an open image to which turns led, and a close with no more events than it has.
use Rattle.std.proofs.Common.{◌≡◌, ℕ, zero, suc, ◌+◌, ◌≤◌, Option, Some, None, List, [], ◌∷◌, ◌++◌, slice_get, slice_set, refl, sym, ◌∙◌, ap, subst, arith}
use Rattle.std.proofs.lemmas.Option.{none-some, same_Some}
use Rattle.image_layout.specs.Places.{Shape}
use Rattle.op_core.specs.declared.want.Want.{Want}
use Rattle.op_core.specs.declared.want.Want.TheVariants as want
use Rattle.map_model.specs.declared.call.Call.{Call}
use Rattle.world.specs.Wants.{answer_to, word_of}
use Rattle.restart_op.specs.declared.restart.RestartOp.{RestartOp}
use Rattle.restart_op.specs.Restart.{wanted as restart_wanted, taken as restart_taken}
use Rattle.restart_op.specs.declared.close.CloseOp.{CloseOp}
use Rattle.restart_op.specs.Close.{wanted as close_wanted, taken as close_taken}
use Rattle.restart_op.specs.Closing.{left as close_left, events_of, Falls as CloseFalls}
use Rattle.engine.specs.declared.engine.Engine.{Engine}
use Rattle.engine.specs.Core.{Caller, Core, current, with_event, turn, turn_of_call, turn_of_caller}
use Rattle.engine.specs.Causes.{Watched}
use Rattle.engine.specs.Alone.{at_start}
use Rattle.engine.proofs.attempts.Doing.{one_more_turn}
use Rattle.core_run.specs.declared.keeper.Keeper.{Keeper}
use Rattle.core_run.specs.declared.keeper.Keeper.TheVariants.{Restarting, Open, Closing, Closed}
use Rattle.core_run.specs.State.{Deed, by_keeper, restarting, closing_keeper, restart_deed, close_deed, keeper_deed, engine_deed, call_deed, caller_deed, open_deed}
use Rattle.core_run.specs.Running.{Setup, IsSetup, IsRunningBy}
use Rattle.core_run.specs.Along.{HasTurns, IsAlongBy, IsAlong, behind, all_behind, BeginsAlong, ComesAlong}
use Rattle.core_run.proofs.events.Opened.{opened_at}

-- ---- the callers, where one of them is another
pub behind_set : (callers : List Caller) (j : ℕ) (c x : Caller) → slice_get callers j ≡ Some c → all_behind (slice_set callers j x) + behind c ≡ all_behind callers + behind x
behind_set [] j c x at = absurd (none-some c at)
behind_set (y ∷ callers) zero c x at = let same = ap behind (same_Some y c at) in omega (arith, same)
behind_set (y ∷ callers) (suc j) c x at = let rest = behind_set callers j c x at in omega (arith, rest)

pub set_here : {A : Type 0} (xs : List A) (j : ℕ) (x y : A) → slice_get xs j ≡ Some x → slice_get (slice_set xs j y) j ≡ Some y
set_here [] j x y at = absurd (none-some x at)
set_here (z ∷ xs) zero x y at = refl
set_here (z ∷ xs) (suc j) x y at = set_here xs j x y at

-- ---- a turn of a caller is the event of its engine
pub turn_is : (shape : Shape) (core : Core) (j : ℕ) (c : Caller) (call : Call) (e : Engine) → slice_get core.callers j ≡ Some c → current c ≡ Some call → c.engine ≡ Some e
    → turn shape (suc j) core ≡ with_event shape j core c call e
turn_is shape core j c call e there calls runs =
    ap (λ o. turn_of_caller shape j core o) there
    ∙ ap (λ o. turn_of_call shape j core c o c.engine) calls
    ∙ ap (λ o. turn_of_call shape j core c (Some call) o) runs

-- and so is what it does
pub deed_is : (shape : Shape) (core : Core) (j : ℕ) (c : Caller) (call : Call) (e : Engine) → slice_get core.callers j ≡ Some c → current c ≡ Some call → c.engine ≡ Some e
    → open_deed shape j Open core ≡ Some (engine_deed shape j core c call e)
deed_is shape core j c call e there calls runs =
    ap (λ o. caller_deed shape j core o) there
    ∙ ap (λ o. call_deed shape j core c o c.engine) calls
    ∙ ap (λ o. call_deed shape j core c (Some call) o) runs

-- what a caller does is the event of an engine of it
pub record IsDoneBy (shape : Shape) (core : Core) (j : ℕ) (d : Deed) : Type 0 where
  pub caller : Caller
  pub there : slice_get core.callers j ≡ Some caller
  pub call : Call
  pub calls : current caller ≡ Some call
  pub engine : Engine
  pub runs : caller.engine ≡ Some engine
  pub deed_is : d ≡ engine_deed shape j core caller call engine

pub done_by : (shape : Shape) (core : Core) (j : ℕ) (d : Deed) → open_deed shape j Open core ≡ Some d → IsDoneBy shape core j d
done_by shape core j d e = by_caller (slice_get core.callers j) refl e
  where
    by_call : (c : Caller) → slice_get core.callers j ≡ Some c → (call : Option Call) → current c ≡ call → (engine : Option Engine) → c.engine ≡ engine
        → call_deed shape j core c call engine ≡ Some d → IsDoneBy shape core j d
    by_call c at None now engine runs q = absurd (none-some d q)
    by_call c at (Some call) now None runs q = absurd (none-some d q)
    by_call c at (Some call) now (Some g) runs q =
        record { caller = c; there = at; call = call; calls = now; engine = g; runs = runs; deed_is = sym (same_Some (engine_deed shape j core c call g) d q) }

    by_caller : (c : Option Caller) → slice_get core.callers j ≡ c → caller_deed shape j core c ≡ Some d → IsDoneBy shape core j d
    by_caller None at q = absurd (none-some d q)
    by_caller (Some c) at q = by_call c at (current c) refl c.engine refl q

module _ (t : Setup) where
  -- with one turn more
  pub turned : (core : Core) (j : ℕ) (c : Caller) (call : Call) (e : Engine) → slice_get core.callers j ≡ Some c → current c ≡ Some call → c.engine ≡ Some e
      → HasTurns t core → HasTurns t (with_event t.shape j core c call e)
  turned core j c call e there calls runs come =
      let more = one_more_turn t.shape come.turns (suc j) (at_start t.shape t.first t.scripts) in
      record {
        turns = come.turns ++ suc j ∷ [];
        core_is = sym (turn_is t.shape core j c call e there calls runs) ∙ ap (turn t.shape (suc j)) come.core_is ∙ ap (λ (w : Watched). w.core) (sym more);
      }

  -- ---- an event of a caller
  open_along : (j : ℕ) (k : Keeper) (core : Core) → IsAlongBy t k core → (d : Deed) → open_deed t.shape j k core ≡ Some d → IsAlong t d.state
  open_along j Open core come d e =
      let by = done_by t.shape core j d e in
      subst (λ (x : Deed). IsAlong t x.state) (sym by.deed_is) (turned core j by.caller by.call by.engine by.there by.calls by.runs come)
  open_along j (Restarting op) core come d e = absurd (none-some d e)
  open_along j (Closing op) core come d e = absurd (none-some d e)
  open_along j Closed core come d e = absurd (none-some d e)

  -- ---- the keeper's events
  restarts : (op : RestartOp) (w : Want) (core : Core)
      → ((restarting t.shape op w core).keeper ≡ Open → (restarting t.shape op w core).core ≡ (at_start t.shape t.first t.scripts).core) → IsAlong t (restarting t.shape op w core)
  restarts op want.Done core opened = record { turns = []; core_is = opened refl }
  restarts op w core opened = tt

  closes : (op : CloseOp) (w : Want) (core : Core) → close_left op ≤ events_of t.shape → IsAlongBy t (closing_keeper op w) core
  closes op want.Done core p = tt
  closes op (want.Load i) core p = p
  closes op (want.Store i x) core p = p
  closes op (want.Exchange i a b) core p = p
  closes op (want.Flush l) core p = p
  closes op want.Fence core p = p
  closes op want.Draw core p = p
  closes op want.Power core p = p

  module _ (is : IsSetup t) (falls : CloseFalls) where
    keeper_along : (k : Keeper) (core : Core) → IsRunningBy t k core → IsAlongBy t k core → (d : Deed) → keeper_deed t.shape k core ≡ Some d → IsAlong t d.state
    keeper_along (Restarting op) core r come d e =
        let w : Want = restart_wanted op in
        let next : RestartOp = restart_taken op (answer_to w (core.words (word_of t.shape w))) in
        subst (λ (x : Deed). IsAlong t x.state) (same_Some (restart_deed t.shape op core) d e)
        (restarts next (restart_wanted next) (by_keeper t.shape w core) (opened_at t is op core r))
    keeper_along Open core r come d e = absurd (none-some d e)
    keeper_along (Closing op) core r come d e =
        let w : Want = close_wanted op in
        let found : ℕ = core.words (word_of t.shape w) in
        let next : CloseOp = close_taken op (answer_to w found) in
        let fewer = falls op found r.1 in
        let bound = come in
        subst (λ (x : Deed). IsAlong t x.state) (same_Some (close_deed t.shape op core) d e)
        (closes next (close_wanted next) (by_keeper t.shape w core) (omega (arith, fewer, bound)))
    keeper_along Closed core r come d e = absurd (none-some d e)

pub begins_along : BeginsAlong
begins_along t is = tt

pub comes_along : CloseFalls → ComesAlong
comes_along falls t zero s d is r come e = keeper_along t is falls s.keeper s.core r come d e
comes_along falls t (suc j) s d is r come e = open_along t j s.keeper s.core come d e
