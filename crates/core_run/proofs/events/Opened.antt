-- An event of the restart, and the image that it leaves open.
use Rattle.std.proofs.Common.{◌≡◌, ◌≢◌, ℕ, zero, suc, ◌+◌, ◌<◌, inl, inr, List, [], ◌∷◌, length, map, slice_get, refl, sym, ap, ◌∙◌, subst, arith}
use Rattle.std.specs.Prelude.{slice_index}
use Rattle.std.proofs.lemmas.Bool.{cases_lt}
use Rattle.std.proofs.lemmas.Option.{none-some}
use Rattle.op_core.specs.declared.want.Want.{Want}
use Rattle.op_core.specs.declared.want.Want.TheVariants as want
use Rattle.trace.specs.Events.{Words, Trace}
use Rattle.trace.specs.Progress.{pending}
use Rattle.image_layout.specs.Places.{Shape, state_word}
use Rattle.map_model.specs.declared.call.Call.{Call}
use Rattle.world.specs.Wants.{word_of}
use Rattle.restart_op.specs.declared.restart.RestartOp.{RestartOp}
use Rattle.restart_op.specs.Restart.{wanted as restart_wanted}
use Rattle.restart_op.specs.Budget.{events_of_restart}
use Rattle.restart_op.specs.Restarted.{restarted, IsAsked, IsStarted}
use Rattle.restart_op.proofs.restarts.Asking.{restart_asks}
use Rattle.restart_op.proofs.restarts.Beginning.{ends_started}
use Rattle.engine.specs.Core.{Caller, Core, callers_from}
use Rattle.engine.specs.Laws.{opened, OpenedHolds}
use Rattle.core_run.specs.declared.keeper.Keeper.TheVariants.{Restarting, Open}
use Rattle.core_run.specs.State.{State, waiting, waiting_from, awake, started_at, started_by, restarting, restart_deed}
use Rattle.core_run.specs.Running.{Setup, IsSetup, FewWait, AllTold, IsOpen, IsRestarting, IsRunning, DeedIsWell}
use Rattle.core_run.proofs.events.Waits.{EnginesWait, pending_other, none_waits}

-- ---- callers that have done nothing
module _ (shape : Shape) (version : ℕ) where
  woken : (number : ℕ) (scripts : List (List Call)) → callers_from shape version number scripts ≡ map (awake version) (waiting_from shape number scripts)
  woken number [] = refl
  woken number (calls ∷ scripts) = ap (λ (cs : List Caller). awake version (waiting shape number calls) ∷ cs) (woken (suc number) scripts)

  their_calls : (number : ℕ) (scripts : List (List Call)) → map (λ (c : Caller). c.calls) (callers_from shape version number scripts) ≡ scripts
  their_calls number [] = refl
  their_calls number (calls ∷ scripts) = ap (λ (css : List (List Call)). calls ∷ css) (their_calls (suc number) scripts)

none_told : (t : Setup) (version number : ℕ) (scripts : List (List Call)) → AllTold t version number (callers_from t.shape version number scripts)
none_told t version number [] = tt
none_told t version number (calls ∷ scripts) =
    (record { its_calls = refl; within = omega arith; drawn = λ e q. absurd (none-some e q); here = refl }, none_told t version (suc number) scripts)

-- the core of a restart
pub same_core : (t : Setup) (op : RestartOp) (core : Core) (r : IsRestarting t op core) → core ≡ record {
  words = (restarted t.shape t.first r.events).words;
  trace = (restarted t.shape t.first r.events).trace;
  callers = waiting_from t.shape 1 t.scripts;
}
same_core t op core r =
    let c = restarted t.shape t.first r.events in
    ap (λ (ws : Words). record { words = ws; trace = core.trace; callers = core.callers }) r.words_are
    ∙ ap (λ (es : Trace). record { words = c.words; trace = es; callers = core.callers }) r.trace_is
    ∙ ap (λ (cs : List Caller). record { words = c.words; trace = c.trace; callers = cs }) r.callers_are

-- ---- so many events of the restart
module _ (t : Setup) (is : IsSetup t) where
  abbrev all : ℕ
  all = events_of_restart t.shape (slice_index t.first)

  abbrev op_at : ℕ → RestartOp
  op_at k = (restarted t.shape t.first k).op

  abbrev core_at : ℕ → Core
  core_at k = record { words = (restarted t.shape t.first k).words; trace = (restarted t.shape t.first k).trace; callers = waiting_from t.shape 1 t.scripts }

  abbrev at_end : Core
  at_end = opened t.shape t.first t.scripts

  asked : (k : ℕ) → k < all → IsAsked t.shape (restarted t.shape t.first k)
  asked k few = restart_asks t.shape t.first k is.served.in_range few

  started : IsStarted t.shape t.first
  started = ends_started t.shape t.first is.served

  -- all of them: the version is that of the state word
  version_is : (started_by (op_at all)).version ≡ at_end.words state_word
  version_is = ap (λ s. (started_at s).version) started.ended ∙ sym started.left.state

  -- the next event comes, or the callers do
  data Next (k : ℕ) : Type 0 where
    goes_on : k + 1 < all → restart_wanted (op_at (suc k)) ≢ want.Done → Next k
    is_over : suc k ≡ all → restart_wanted (op_at (suc k)) ≡ want.Done → Next k

  next : (k : ℕ) → k < all → Next k
  next k few = elim (cases_lt (suc k) all) [
    | inl more ↦ goes_on (omega (arith, more)) (asked (suc k) more).asks
    | inr last ↦ let same : suc k ≡ all = omega (arith, last, few) in
        is_over same (subst (λ n. restart_wanted (op_at n) ≡ want.Done) (sym same) started.wants_no_more)
  ]

  -- the state that the event leaves
  abbrev state_after : ℕ → State
  state_after k = restarting t.shape (op_at (suc k)) (restart_wanted (op_at (suc k))) (core_at (suc k))

  stays_early : (op : RestartOp) (w : Want) (core : Core) → w ≢ want.Done → restarting t.shape op w core ≡ record { keeper = Restarting op; core = core }
  stays_early op want.Done core some = absurd (some refl)
  stays_early op (want.Load i) core some = refl
  stays_early op (want.Store i x) core some = refl
  stays_early op (want.Exchange i a b) core some = refl
  stays_early op (want.Flush l) core some = refl
  stays_early op want.Fence core some = refl
  stays_early op want.Draw core some = refl
  stays_early op want.Power core some = refl

  opens_now : (op : RestartOp) (w : Want) (core : Core) → w ≡ want.Done
      → restarting t.shape op w core ≡ record { keeper = Open; core = record core { callers = map (awake (started_by op).version) core.callers } }
  opens_now op w core is_done = ap (λ v. restarting t.shape op v core) is_done

  -- it is the core that a restart opens
  opened_end : record (core_at all) { callers = map (awake (started_by (op_at all)).version) (waiting_from t.shape 1 t.scripts) } ≡ at_end
  opened_end =
      ap (λ v. record (core_at all) { callers = map (awake v) (waiting_from t.shape 1 t.scripts) }) version_is
      ∙ ap (λ (cs : List Caller). record { words = at_end.words; trace = at_end.trace; callers = cs }) (sym (woken t.shape (at_end.words state_word) 1 t.scripts))

  -- no caller has flushed anything
  none_flushed : (k number : ℕ) → pending (suc number) (restarted t.shape t.first k).trace ≡ []
  none_flushed zero number = refl
  none_flushed (suc k) number =
      let c = restarted t.shape t.first k in
      pending_other t.shape (restart_wanted c.op) (c.words (word_of t.shape (restart_wanted c.op))) 0 (suc number) c.trace (λ q. omega (arith, q)) ∙ none_flushed k number

  -- where the image is open after an event of the restart, the core is that of callers that have done nothing
  abbrev OpensAt : RestartOp → Core → Type 0
  OpensAt op core = (restart_deed t.shape op core).state.keeper ≡ Open → (restart_deed t.shape op core).state.core ≡ at_end

  opens_after : (k : ℕ) → k < all → OpensAt (op_at k) (core_at k)
  opens_after k few q = by (next k few)
    where
      by : Next k → (state_after k).core ≡ at_end
      by (goes_on more some) = absurd (let e = ap (λ (s : State). s.keeper) (stays_early (op_at (suc k)) (restart_wanted (op_at (suc k))) (core_at (suc k)) some) in
          let never : Restarting (op_at (suc k)) ≡ Open = sym e ∙ q in cc)
      by (is_over same done) =
          ap (λ (s : State). s.core) (opens_now (op_at (suc k)) (restart_wanted (op_at (suc k))) (core_at (suc k)) done)
          ∙ subst (λ n. record (core_at n) { callers = map (awake (started_by (op_at n)).version) (waiting_from t.shape 1 t.scripts) } ≡ at_end) (sym same) opened_end

  pub opened_at : (op : RestartOp) (core : Core) → IsRestarting t op core → OpensAt op core
  opened_at op core r =
      subst (λ (o : RestartOp). OpensAt o core) (sym r.op_is) (subst (λ (c : Core). OpensAt (op_at r.events) c) (sym (same_core t op core r)) (opens_after r.events r.few))

  module _ (waits : EnginesWait) (opens : OpenedHolds) where
    none_wait : (number : ℕ) (scripts : List (List Call)) → FewWait at_end.trace (suc number) (callers_from t.shape (at_end.words state_word) (suc number) scripts)
    none_wait number [] = tt
    none_wait number (calls ∷ scripts) = (
      none_waits waits at_end.trace (suc number) (record { geometry = t.shape; version = at_end.words state_word; caller = suc number }) (slice_get calls 0)
          (ap (λ (ps : List (ℕ × ℕ)). length ps) (none_flushed all number)),
      none_wait (suc number) scripts,
    )

    opens_open : IsOpen t at_end
    opens_open =
        let holds = opens t.shape t.first t.scripts is.served (record { few = is.few; words = is.words }) in
        record {
          holds = holds;
          scripts = their_calls t.shape (at_end.words state_word) 1 t.scripts;
          told = none_told t (at_end.words state_word) 1 t.scripts;
          few_wait = none_wait 0 t.scripts;
          keeper_waits = holds.fenced;
        }

    abbrev IsWell : RestartOp → Core → Type 0
    IsWell op core = DeedIsWell t 0 (record { keeper = Restarting op; core = core }) (restart_deed t.shape op core)

    well_at : (k : ℕ) → k < all → IsWell (op_at k) (core_at k)
    well_at k few =
        let a = asked k few in
        record {
          may = record { word = a.word; line = a.line; few = a.few; some = a.asks };
          after = by (next k few);
        }
      where
        by : Next k → IsRunning t (restarting t.shape (op_at (suc k)) (restart_wanted (op_at (suc k))) (core_at (suc k)))
        by (goes_on more some) =
            subst (λ (s : State). IsRunning t s) (sym (stays_early (op_at (suc k)) (restart_wanted (op_at (suc k))) (core_at (suc k)) some))
            (record { events = suc k; few = omega (arith, more); op_is = refl; words_are = refl; trace_is = refl; callers_are = refl })
        by (is_over same done) =
            subst (λ (s : State). IsRunning t s) (sym (opens_now (op_at (suc k)) (restart_wanted (op_at (suc k))) (core_at (suc k)) done))
            (subst (λ n. IsOpen t (record (core_at n) { callers = map (awake (started_by (op_at n)).version) (waiting_from t.shape 1 t.scripts) })) (sym same)
            (subst (λ (c : Core). IsOpen t c) (sym opened_end) opens_open))

    pub restart_well : (op : RestartOp) (core : Core) → IsRestarting t op core → IsWell op core
    restart_well op core r =
        subst (λ (o : RestartOp). IsWell o core) (sym r.op_is) (subst (λ (c : Core). IsWell (op_at r.events) c) (sym (same_core t op core r)) (well_at r.events r.few))
