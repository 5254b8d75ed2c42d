-- An event of the close.
use Rattle.std.proofs.Common.{◌≡◌, ◌≢◌, ℕ, suc, ◌<◌, ◌≤◌, List, ◌∷◌, length, refl, sym, ap, ◌∙◌, subst, arith}
use Rattle.op_core.specs.declared.want.Want.{Want}
use Rattle.op_core.specs.declared.want.Want.TheVariants as want
use Rattle.trace.specs.Events.{Words, Trace}
use Rattle.trace.specs.Progress.{pending}
use Rattle.world.specs.Wants.{word_of, event_of}
use Rattle.restart_op.specs.declared.close.CloseOp.{CloseOp}
use Rattle.restart_op.specs.Close.{wanted}
use Rattle.restart_op.specs.Closing.{close_after, FewWait}
use Rattle.restart_op.proofs.closes.CloseAlong.{along}
use Rattle.restart_op.proofs.closes.CloseLines.{LineIn, line_on, word_in, line_in}
use Rattle.engine.specs.Core.{Caller, Core}
use Rattle.engine.specs.Laws.{NoneRuns}
use Rattle.core_run.specs.declared.keeper.Keeper.TheVariants.{Closing}
use Rattle.core_run.specs.State.{closing_keeper, close_deed}
use Rattle.core_run.specs.Running.{Setup, IsOpen, IsClosing, IsRunningBy, DeedIsWell}

-- ---- after so many of its events
module _ (few : FewWait) (t : Setup) (before : Core) (o : IsOpen t before) (none : NoneRuns before) where
  abbrev op_at : ℕ → CloseOp
  op_at k = (close_after t.shape before.words before.trace k).op

  abbrev core_at : ℕ → Core
  core_at k = record {
    words = (close_after t.shape before.words before.trace k).words;
    trace = (close_after t.shape before.words before.trace k).trace;
    callers = before.callers;
  }

  is_closing : (k : ℕ) → IsClosing t (op_at k) (core_at k)
  is_closing k = record {
    before = before;
    was_open = o;
    run_out = none;
    events = k;
    op_is = refl;
    words_are = refl;
    trace_is = refl;
    callers_are = refl;
  }

  in_image : (k : ℕ) → LineIn t.shape (op_at k).step (core_at k).words (core_at k).trace
  in_image k = along t.shape (LineIn t.shape) (line_on t.shape) before.words before.trace (omega arith) k

  few_at : (k l : ℕ) → wanted (op_at k) ≡ want.Flush l → length (pending 0 (core_at k).trace) < 8
  few_at k l q =
      let f = few t.shape before.words before.trace o.keeper_waits (suc k) in
      subst (λ w. length (pending 0 (event_of t.shape w ((core_at k).words (word_of t.shape w)) 0 ∷ (core_at k).trace)) ≤ 8) q f

  goes_on : (k : ℕ) (w : Want) → wanted (op_at k) ≡ w → IsRunningBy t (closing_keeper (op_at k) w) (core_at k)
  goes_on k want.Done is = (op_at k, is_closing k, is)
  goes_on k (want.Load i) is = (is_closing k, λ q. let z : want.Load i ≡ want.Done = sym is ∙ q in cc)
  goes_on k (want.Store i x) is = (is_closing k, λ q. let z : want.Store i x ≡ want.Done = sym is ∙ q in cc)
  goes_on k (want.Exchange i a b) is = (is_closing k, λ q. let z : want.Exchange i a b ≡ want.Done = sym is ∙ q in cc)
  goes_on k (want.Flush l) is = (is_closing k, λ q. let z : want.Flush l ≡ want.Done = sym is ∙ q in cc)
  goes_on k want.Fence is = (is_closing k, λ q. let z : want.Fence ≡ want.Done = sym is ∙ q in cc)
  goes_on k want.Draw is = (is_closing k, λ q. let z : want.Draw ≡ want.Done = sym is ∙ q in cc)
  goes_on k want.Power is = (is_closing k, λ q. let z : want.Power ≡ want.Done = sym is ∙ q in cc)

  pub well_at : (k : ℕ) → wanted (op_at k) ≢ want.Done
      → DeedIsWell t 0 (record { keeper = Closing (op_at k); core = core_at k }) (close_deed t.shape (op_at k) (core_at k))
  well_at k some = record {
    may = record {
      word = word_in t.shape (op_at k).step (core_at k).words (core_at k).trace (in_image k);
      line = line_in t.shape (op_at k).step (core_at k).words (core_at k).trace (in_image k);
      few = few_at k;
      some = some;
    };
    after = goes_on (suc k) (wanted (op_at (suc k))) refl;
  }

-- the core of a close
pub same_core : (t : Setup) (op : CloseOp) (core : Core) (r : IsClosing t op core) → core ≡ record {
  words = (close_after t.shape r.before.words r.before.trace r.events).words;
  trace = (close_after t.shape r.before.words r.before.trace r.events).trace;
  callers = r.before.callers;
}
same_core t op core r =
    let c = close_after t.shape r.before.words r.before.trace r.events in
    ap (λ (ws : Words). record { words = ws; trace = core.trace; callers = core.callers }) r.words_are
    ∙ ap (λ (es : Trace). record { words = c.words; trace = es; callers = core.callers }) r.trace_is
    ∙ ap (λ (cs : List Caller). record { words = c.words; trace = c.trace; callers = cs }) r.callers_are

module _ (few : FewWait) (t : Setup) where
  abbrev IsWell : CloseOp → Core → Type 0
  IsWell op core = wanted op ≢ want.Done → DeedIsWell t 0 (record { keeper = Closing op; core = core }) (close_deed t.shape op core)

  pub close_well : (op : CloseOp) (core : Core) → IsClosing t op core → IsWell op core
  close_well op core r =
      let c = close_after t.shape r.before.words r.before.trace r.events in
      subst (λ (p : CloseOp). IsWell p core) (sym r.op_is)
      (subst (λ (k : Core). IsWell c.op k) (sym (same_core t op core r)) (well_at few t r.before r.was_open r.run_out r.events))
