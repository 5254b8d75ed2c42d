-- How many events are left: of the restart and of the close, each of whose events leaves fewer, and of a caller; and no more than the run counts.
use Rattle.std.proofs.Common.{◌≡◌, ◌≢◌, ℕ, zero, suc, ◌+◌, ◌*◌, ◌<◌, ◌≤◌, Option, Some, None, List, [], ◌∷◌, length, map, slice_get, refl, sym, ap, ◌∙◌, subst, arith}
use Rattle.std.specs.Prelude.{⊤, slice_index}
use Rattle.std.proofs.lemmas.Option.{none-some, same_Some, slice_get_within}
use Rattle.op_core.specs.declared.want.Want.{Want}
use Rattle.op_core.specs.declared.want.Want.TheVariants as want
use Rattle.image_layout.specs.Places.{Shape, IsShape, words_of}
use Rattle.map_model.specs.declared.call.Call.{Call}
use Rattle.world.specs.Wants.{answer_to, word_of}
use Rattle.world.proofs.stepping.Answers.{is_answer}
use Rattle.restart_op.specs.declared.restart.RestartOp.{RestartOp}
use Rattle.restart_op.specs.Restart.{wanted as restart_wanted, taken as restart_taken}
use Rattle.restart_op.specs.Budget.{events_of_sweep, events_of_restart, left as restart_left}
use Rattle.restart_op.specs.Restarted.{restarted}
use Rattle.restart_op.specs.declared.close.CloseOp.{CloseOp}
use Rattle.restart_op.specs.Close.{wanted as close_wanted, taken as close_taken}
use Rattle.restart_op.specs.Closing.{left as close_left}
use Rattle.engine.specs.declared.engine.Engine.{Engine}
use Rattle.engine.specs.Core.{Caller, Core, current}
use Rattle.engine.specs.Left.{left_alone, most_alone, events_of_call}
use Rattle.engine.specs.Alone.{along, IsNext}
use Rattle.core_run.specs.declared.keeper.Keeper.{Keeper}
use Rattle.core_run.specs.declared.keeper.Keeper.TheVariants.{Restarting, Open, Closing, Closed}
use Rattle.core_run.specs.declared.goal.Goal.{Goal}
use Rattle.core_run.specs.State.{State, Deed, by_keeper, restarting, closing_keeper, restart_deed, close_deed, keeper_deed, call_deed, caller_deed}
use Rattle.core_run.specs.Run.{all_calls, drive}
use Rattle.core_run.specs.Running.{Setup, IsSetup, IsOpen, IsRestarting, IsRunningBy}
use Rattle.core_run.specs.Along.{HasTurns, IsAlongBy, KeeperLaws}
use Rattle.core_run.specs.Ends.{IsRun, most_of, IsShut}
use Rattle.core_run.proofs.ends.Working.{EngineLaws, call_two, within_all, same_within}
use Rattle.core_run.proofs.ends.Stopping.{StopsIn, stops_sooner, none_stops, same_drive}
use Rattle.core_run.proofs.ends.Phases.{GoesOn, later, before, caller_stops}
use Rattle.core_run.proofs.ends.Driving.{after}

abbrev pub keeper_left : Keeper → ℕ
keeper_left (Restarting op) = restart_left op
keeper_left Open = 0
keeper_left (Closing op) = close_left op
keeper_left Closed = 0

-- ---- the restart and the close
module _ (keepers : KeeperLaws) where
  restart_less : (op : RestartOp) (n : ℕ) → restart_wanted op ≢ want.Done → restart_left (restart_taken op (answer_to (restart_wanted op) n)) < restart_left op
  restart_less op n some = keepers.restart op (answer_to (restart_wanted op) n) (is_answer (restart_wanted op) n some)

  -- less after each event, and no more than with a sweep
  restarted_left : (shape : Shape) (words : List ℕ) (n : ℕ) → IsShape shape → n ≤ events_of_restart shape (slice_index words)
      → restart_left (restarted shape words n).op ≤ events_of_sweep shape
  restarted_left shape words zero is low = let most = keepers.most shape is in omega (arith, most)
  restarted_left shape words (suc n) is low =
      let c = restarted shape words n in
      let earlier = restarted_left shape words n is (omega (arith, low)) in
      let fewer = restart_less c.op (c.words (word_of shape (restart_wanted c.op))) (keepers.asks shape words n is (omega (arith, low))).asks in
      omega (arith, earlier, fewer)

restarting_left : (shape : Shape) (op : RestartOp) (w : Want) (core : Core) → keeper_left (restarting shape op w core).keeper ≤ restart_left op
restarting_left shape op want.Done core = omega arith
restarting_left shape op w core = omega arith

closing_left : (op : CloseOp) (w : Want) → keeper_left (closing_keeper op w) ≤ close_left op
closing_left op want.Done = omega arith
closing_left op w = omega arith

closing_shut : (op : CloseOp) (w : Want) → IsShut (closing_keeper op w)
closing_shut op want.Done = tt
closing_shut op w = tt

-- a keeper who closes goes on with it
pub stays_shut : (shape : Shape) (k : Keeper) (core : Core) (d : Deed) → IsShut k → keeper_deed shape k core ≡ Some d → IsShut d.state.keeper
stays_shut shape (Restarting op) core d shut e = absurd shut
stays_shut shape Open core d shut e = absurd shut
stays_shut shape (Closing op) core d shut e =
    let next : CloseOp = close_taken op (answer_to (close_wanted op) (core.words (word_of shape (close_wanted op)))) in
    subst (λ (x : Deed). IsShut x.state.keeper) (same_Some (close_deed shape op core) d e) (closing_shut next (close_wanted next))
stays_shut shape Closed core d shut e = absurd (none-some d e)

-- a keeper who restarts the image goes on with it, or leaves it to the callers
abbrev pub IsEarly : Keeper → Type 0
IsEarly (Restarting op) = ⊤
IsEarly Open = ⊤
IsEarly (Closing op) = ⊥
IsEarly Closed = ⊥

restarting_early : (shape : Shape) (op : RestartOp) (w : Want) (core : Core) → IsEarly (restarting shape op w core).keeper
restarting_early shape op want.Done core = tt
restarting_early shape op w core = tt

pub stays_early : (shape : Shape) (k : Keeper) (core : Core) (d : Deed) → IsEarly k → keeper_deed shape k core ≡ Some d → IsEarly d.state.keeper
stays_early shape (Restarting op) core d early e =
    let w : Want = restart_wanted op in
    let next : RestartOp = restart_taken op (answer_to w (core.words (word_of shape w))) in
    subst (λ (x : Deed). IsEarly x.state.keeper) (same_Some (restart_deed shape op core) d e) (restarting_early shape next (restart_wanted next) (by_keeper shape w core))
stays_early shape Open core d early e = absurd (none-some d e)
stays_early shape (Closing op) core d early e = absurd early
stays_early shape Closed core d early e = absurd early

-- ---- each event of the restart and of the close leaves fewer
module _ (keepers : KeeperLaws) (t : Setup) (is : IsSetup t) where
  left_now : (op : RestartOp) (core : Core) (r : IsRestarting t op core) → restart_left op ≤ events_of_sweep t.shape
  left_now op core r = let few = r.few in
      subst (λ (o : RestartOp). restart_left o ≤ events_of_sweep t.shape) (sym r.op_is)
      (restarted_left keepers t.shape t.first r.events is.served.in_range (omega (arith, few)))

  asks_now : (op : RestartOp) (core : Core) (r : IsRestarting t op core) → restart_wanted op ≢ want.Done
  asks_now op core r = subst (λ (o : RestartOp). restart_wanted o ≢ want.Done) (sym r.op_is) (keepers.asks t.shape t.first r.events is.served.in_range r.few).asks

  pub keeper_less : (k : Keeper) (core : Core) → IsRunningBy t k core → (d : Deed) → keeper_deed t.shape k core ≡ Some d → keeper_left d.state.keeper < keeper_left k
  keeper_less (Restarting op) core r d e =
      let w : Want = restart_wanted op in
      let n : ℕ = core.words (word_of t.shape w) in
      let next : RestartOp = restart_taken op (answer_to w n) in
      let fewer = restart_less keepers op n (asks_now op core r) in
      let after = restarting_left t.shape next (restart_wanted next) (by_keeper t.shape w core) in
      subst (λ (x : Deed). keeper_left x.state.keeper < restart_left op) (same_Some (restart_deed t.shape op core) d e) (omega (arith, fewer, after))
  keeper_less Open core r d e = absurd (none-some d e)
  keeper_less (Closing op) core r d e =
      let n : ℕ = core.words (word_of t.shape (close_wanted op)) in
      let next : CloseOp = close_taken op (answer_to (close_wanted op) n) in
      let fewer = keepers.close op n r.1 in
      let after = closing_left next (close_wanted next) in
      subst (λ (x : Deed). keeper_left x.state.keeper < close_left op) (same_Some (close_deed t.shape op core) d e) (omega (arith, fewer, after))
  keeper_less Closed core r d e = absurd (none-some d e)

  pub keeper_low : (k : Keeper) (core : Core) → IsRunningBy t k core → IsAlongBy t k core → keeper_left k ≤ most_of t
  keeper_low (Restarting op) core r a = let l = left_now op core r in omega (arith, l)
  keeper_low Open core r a = omega arith
  keeper_low (Closing op) core r a = let l = a in omega (arith, l)
  keeper_low Closed core r a = omega arith

  pub keeper_stops : (goal : Goal) (n : ℕ) (s : State) → IsRun t s → keeper_left s.keeper ≤ n → StopsIn t.shape goal 0 n s
  keeper_stops goal zero s r few = λ d e. (let f = keeper_less s.keeper s.core r.running d e in omega (arith, f, few))
  keeper_stops goal (suc n) s r few = λ d e on.
      (let f = keeper_less s.keeper s.core r.running d e in keeper_stops goal n d.state (after keepers.wells keepers.comes t is 0 s d r e) (omega (arith, f, few)))

  -- ---- and so does each of a caller, wherever all others stand
  calls_low : (cs : List Caller) (j : ℕ) (c : Caller) → slice_get cs j ≡ Some c → length c.calls ≤ all_calls (map (λ c. c.calls) cs)
  calls_low [] j c at = absurd (none-some c at)
  calls_low (y ∷ cs) zero c at = let same = ap (λ (x : Caller). length x.calls) (same_Some y c at) in omega (arith, same)
  calls_low (y ∷ cs) (suc j) c at = let rest = calls_low cs j c at in omega (arith, rest)

  module _ (laws : EngineLaws) (goal : Goal) (j : ℕ) where
    -- the state with this core, whose image is open
    abbrev opened : Core → State
    opened core = record { keeper = Open; core = core }

    module _ (core : Core) (o : IsOpen t core) (come : HasTurns t core) (c : Caller) (at : slice_get core.callers j ≡ Some c) where
      runs_low : (call : Call) → current c ≡ Some call → (e : Engine) → c.engine ≡ Some e → StopsIn t.shape goal (suc j) (most_of t) (opened core)
      runs_low call now e runs =
          let next : IsNext (along t.shape t.first t.scripts come.turns) j e =
          record { caller = c; there = subst (λ (k : Core). slice_get k.callers j ≡ Some c) come.core_is at; call = call; calls = now; runs = runs } in
          let n : ℕ = left_alone e + (most_alone + 1) + events_of_call t.shape * (later c + 1) in
          let stands : GoesOn t.shape (along t.shape t.first t.scripts come.turns) j n = record { engine = e; next = next; phase = before (same_within n) } in
          let all = subst (λ css. length c.calls ≤ all_calls css) o.scripts (calls_low core.callers j c at) in
          let within = slice_get_within c.calls (length c.entries) call now in
          let few = within_all (events_of_call t.shape) most_alone (left_alone e) (later c) (all_calls t.scripts) (2 * words_of t.shape)
          (laws.short e) (call_two t.shape) (omega (arith, all, within)) in
          subst (λ (k : Core). StopsIn t.shape goal (suc j) (most_of t) (opened k)) (sym come.core_is)
          (stops_sooner t.shape goal (suc j) (suc n) (most_of t) (opened (along t.shape t.first t.scripts come.turns).core) few (caller_stops laws t is goal j n come.turns stands))

      by_call : (call : Option Call) → current c ≡ call → (e : Option Engine) → c.engine ≡ e → StopsIn t.shape goal (suc j) (most_of t) (opened core)
      by_call None now e runs = none_stops t.shape goal (suc j) (most_of t) (opened core)
          (ap (λ x. caller_deed t.shape j core x) at ∙ ap (λ x. call_deed t.shape j core c x c.engine) now)
      by_call (Some call) now None runs = none_stops t.shape goal (suc j) (most_of t) (opened core)
          (ap (λ x. caller_deed t.shape j core x) at ∙ ap (λ x. call_deed t.shape j core c x c.engine) now ∙ ap (λ x. call_deed t.shape j core c (Some call) x) runs)
      by_call (Some call) now (Some e) runs = runs_low call now e runs

    caller_low : (k : Keeper) (core : Core) → IsRunningBy t k core → IsAlongBy t k core → StopsIn t.shape goal (suc j) (most_of t) (record { keeper = k; core = core })
    caller_low (Restarting op) core r come = none_stops t.shape goal (suc j) (most_of t) (record { keeper = Restarting op; core = core }) refl
    caller_low (Closing op) core r come = none_stops t.shape goal (suc j) (most_of t) (record { keeper = Closing op; core = core }) refl
    caller_low Closed core r come = none_stops t.shape goal (suc j) (most_of t) (record { keeper = Closed; core = core }) refl
    caller_low Open core o come = by (slice_get core.callers j) refl
      where
        by : (c : Option Caller) → slice_get core.callers j ≡ c → StopsIn t.shape goal (suc j) (most_of t) (opened core)
        by None at = none_stops t.shape goal (suc j) (most_of t) (opened core) (ap (λ x. caller_deed t.shape j core x) at)
        by (Some c) at = by_call core o come c at (current c) refl c.engine refl

  -- ---- so that the number of events is enough
  pub stops_low : EngineLaws → (goal : Goal) (c : ℕ) (s : State) → IsRun t s → StopsIn t.shape goal c (most_of t) s
  stops_low laws goal zero s r = keeper_stops goal (most_of t) s r (keeper_low s.keeper s.core r.running r.along)
  stops_low laws goal (suc j) s r = caller_low laws goal j s.keeper s.core r.running r.along

  pub drives_are_enough : EngineLaws → (most c : ℕ) (goal : Goal) (n : ℕ) (s : State) → most_of t ≤ most → IsRun t s
      → drive t.shape most c goal n s ≡ drive t.shape (most_of t) c goal n s
  drives_are_enough laws most c goal n s enough r =
      let low = stops_low laws goal c s r in
      same_drive t.shape goal c most (most_of t) n s (stops_sooner t.shape goal c (most_of t) most s enough low) low
