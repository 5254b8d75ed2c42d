-- In each state of a run the words are the newest of the trace.
use Rattle.std.proofs.Common.{◌≡◌, ℕ, zero, suc, [], ap, sym, subst, refl}
use Rattle.op_core.specs.declared.want.Want.{Want}
use Rattle.op_core.specs.declared.want.Ans.{Ans}
use Rattle.trace.specs.Events.{Words, Trace, value, after}
use Rattle.image_layout.specs.Places.{Shape}
use Rattle.world.specs.Wants.{word_of, event_of}
use Rattle.restart_op.specs.Course.{Course, after_events}
use Rattle.restart_op.specs.declared.restart.RestartOp.{RestartOp}
use Rattle.restart_op.specs.Restart.{begun as restart_begun, wanted as restart_wanted, taken as restart_taken}
use Rattle.restart_op.specs.declared.close.CloseOp.{CloseOp}
use Rattle.restart_op.specs.Close.{begun, wanted, taken}
use Rattle.restart_op.specs.Closing.{close_after}
use Rattle.engine.specs.Core.{Core}
use Rattle.core_run.specs.declared.keeper.Keeper.{Keeper}
use Rattle.core_run.specs.declared.keeper.Keeper.TheVariants.{Restarting, Open, Closing, Closed}
use Rattle.core_run.specs.Running.{Setup, start_of, IsRestarting, IsClosing, IsRunningBy}
use Rattle.core_run.proofs.events.Opened.{same_core as same_restart}
use Rattle.core_run.proofs.events.Closes.{same_core as same_close}

-- what caller 0 does alone keeps it so
module _ {M : Type 0} (wants : M → Want) (takes : M → Ans → M) (shape : Shape) (start : Words) where
  alone_newest : (c : Course wants takes shape) → c.words ≡ value start c.trace → (n : ℕ)
      → (after_events wants takes shape n c).words ≡ value start (after_events wants takes shape n c).trace
  alone_newest c is zero = is
  alone_newest c is (suc n) =
      let d = after_events wants takes shape n c in
      ap (λ (ws : Words). after (event_of shape (wants d.op) (d.words (word_of shape (wants d.op))) 0) ws) (alone_newest c is n)

pub close_newest : (shape : Shape) (start words : Words) (es : Trace) → words ≡ value start es → (n : ℕ)
    → (close_after shape words es n).words ≡ value start (close_after shape words es n).trace
close_newest shape start words es is n = alone_newest wanted taken shape start (record { words = words; trace = es; op = begun shape }) is n

-- ---- in each state
abbrev pub IsNewest : Setup → Core → Type 0
IsNewest t core = core.words ≡ value (start_of t) core.trace

module _ (t : Setup) where
  restart_is_newest : (op : RestartOp) (core : Core) → IsRestarting t op core → IsNewest t core
  restart_is_newest op core r =
      subst (λ (k : Core). IsNewest t k) (sym (same_restart t op core r))
      (alone_newest restart_wanted restart_taken t.shape (start_of t) (record { words = start_of t; trace = []; op = restart_begun t.shape }) refl r.events)

  close_is_newest : (op : CloseOp) (core : Core) → IsClosing t op core → IsNewest t core
  close_is_newest op core r =
      subst (λ (k : Core). IsNewest t k) (sym (same_close t op core r))
      (close_newest t.shape (start_of t) r.before.words r.before.trace r.was_open.holds.well.words_are r.events)

  pub is_newest : (keeper : Keeper) (core : Core) → IsRunningBy t keeper core → IsNewest t core
  is_newest (Restarting op) core r = restart_is_newest op core r
  is_newest Open core r = r.holds.well.words_are
  is_newest (Closing op) core r = close_is_newest op core r.0
  is_newest Closed core r = close_is_newest r.0 core r.1
