-- The calls run out and the close begins and ends, whatever the lines before it are.
use Rattle.std.proofs.Common.{◌≡◌, ℕ, ◌≤◌, None, List, [], ◌∷◌, refl, sym, subst, arith}
use Rattle.std.specs.Prelude.{nat_lt}
use Rattle.std.proofs.lemmas.Option.{none-some}
use Rattle.image_layout.specs.Places.{Shape, IsShape, words_of}
use Rattle.script_text.specs.declared.line.Line.{Line}
use Rattle.script_text.specs.declared.line.Line.TheVariants as line
use Rattle.restart_op.specs.declared.restart.RestartOp.{RestartOp}
use Rattle.restart_op.specs.Close.{begun as close_begun}
use Rattle.restart_op.specs.Closing.{left as close_left, events_of}
use Rattle.engine.specs.Core.{Core}
use Rattle.core_run.specs.declared.keeper.Keeper.{Keeper}
use Rattle.core_run.specs.declared.keeper.Keeper.TheVariants.{Restarting, Open, Closing, Closed}
use Rattle.core_run.specs.declared.goal.Goal.{Goal}
use Rattle.core_run.specs.declared.goal.Goal.TheVariants.{AnyEvent, Kind, StoreTo}
use Rattle.core_run.specs.State.{State, close_deed, keeper_deed}
use Rattle.core_run.specs.Run.{drive, restarted, rounds, close_begins, run_out, ready_for, line_done, lines_done, closed}
use Rattle.core_run.specs.Running.{Setup, IsSetup, IsOpen, IsRunningBy}
use Rattle.core_run.specs.States.{CloseMayBegin}
use Rattle.core_run.specs.Along.{KeeperLaws}
use Rattle.core_run.specs.Ends.{IsRun, most_of, IsShut}
use Rattle.core_run.specs.Rounds.{RoundsEnd, RoundsAreEnough}
use Rattle.core_run.proofs.ends.Choices.{either}
use Rattle.core_run.proofs.ends.Measures.{stays_shut}
use Rattle.core_run.proofs.ends.Driving.{drive_stays, restarted_stays, ready_stays, rounds_stay}
use Rattle.core_run.proofs.ends.Keeping.{driven_through, drive_keeps, restart_ends}

-- the laws that are used
pub record RunLaws : Type 0 where
  pub keepers : KeeperLaws
  pub may_close : CloseMayBegin
  pub close_low : (shape : Shape) → IsShape shape → close_left (close_begun shape) ≡ events_of shape
  pub rounds_end : RoundsEnd
  pub few_rounds : RoundsAreEnough

module _ (laws : RunLaws) (t : Setup) (is : IsSetup t) (most : ℕ) (enough : most_of t ≤ most) where
  abbrev keepers : KeeperLaws
  keepers = laws.keepers

  drives : (m c : ℕ) (goal : Goal) (n : ℕ) (s : State) → IsRun t s → IsRun t (drive t.shape m c goal n s)
  drives = drive_stays keepers.wells keepers.comes t is

  ready : (c : ℕ) (s : State) → IsRun t s → IsRun t (ready_for t.shape most c s)
  ready c s r = ready_stays keepers.wells keepers.comes t is most c s r

  -- ---- the calls run out
  begins_stays : (k : Keeper) (s : State) → s.keeper ≡ k → IsRun t s → IsRun t (close_begins t.shape most k s)
  begins_stays Open s here r =
      let few = laws.few_rounds t s is r here in
      let end = laws.rounds_end t most most s is enough r here (omega (arith, few, enough)) in
      let at_end : State = rounds t.shape most most s in
      let run : IsRun t at_end = rounds_stay keepers.wells keepers.comes t is most most s r in
      let open_end : IsOpen t at_end.core = subst (λ k. IsRunningBy t k at_end.core) end.still_open run.running in
      let good = laws.close_low t.shape is.served.in_range in
      record {
        running = laws.may_close t at_end.core is open_end end.none_runs;
        along = omega (arith, good);
      }
  begins_stays (Restarting op) s here r = r
  begins_stays (Closing op) s here r = r
  begins_stays Closed s here r = r

  begins_shut : (k : Keeper) (s : State) → s.keeper ≡ k → ((op : RestartOp) → s.keeper ≡ Restarting op → ⊥) → IsShut (close_begins t.shape most k s).keeper
  begins_shut Open s here past = tt
  begins_shut (Restarting op) s here past = absurd (past op here)
  begins_shut (Closing op) s here past = subst IsShut (sym here) tt
  begins_shut Closed s here past = subst IsShut (sym here) tt

  pub run_out_stays : (s : State) → IsRun t s → IsRun t (run_out t.shape most s)
  run_out_stays s r = begins_stays (restarted t.shape most s).keeper (restarted t.shape most s) refl (restarted_stays keepers.wells keepers.comes t is most s r)

  pub run_out_shut : (s : State) → IsRun t s → IsShut (run_out t.shape most s).keeper
  run_out_shut s r = begins_shut (restarted t.shape most s).keeper (restarted t.shape most s) refl (restart_ends keepers t is most s enough r)

  -- ---- the close
  pub closed_stays : (s : State) → IsRun t s → IsRun t (closed t.shape most s)
  closed_stays s r = drives most 0 AnyEvent most (run_out t.shape most s) (run_out_stays s r)

  is_closed : (k : Keeper) (core : Core) → IsShut k → keeper_deed t.shape k core ≡ None → k ≡ Closed
  is_closed (Restarting op) core shut none = absurd shut
  is_closed Open core shut none = absurd shut
  is_closed (Closing op) core shut none = absurd (none-some (close_deed t.shape op core) (sym none))
  is_closed Closed core shut none = refl

  pub closed_ends : (s : State) → IsRun t s → (closed t.shape most s).keeper ≡ Closed
  closed_ends s r =
      let at_close : State = run_out t.shape most s in
      is_closed (closed t.shape most s).keeper (closed t.shape most s).core
      (drive_keeps keepers t is IsShut (stays_shut t.shape) most AnyEvent most at_close (run_out_shut s r))
      (driven_through keepers t is most at_close enough (run_out_stays s r))

  -- ---- the lines
  pub line_stays : (l : Line) (s : State) → IsRun t s → IsRun t (line_done t.shape most l s)
  line_stays (line.Call c call) s r = r
  line_stays (line.Fuse c n) s r = r
  line_stays (line.Step c n) s r = drives most c AnyEvent n (ready_for t.shape most c s) (ready c s r)
  line_stays (line.Until c e n) s r = drives most c (Kind e) n (ready_for t.shape most c s) (ready c s r)
  line_stays (line.At c word) s r =
      let now : State = ready_for t.shape most c s in
      either (IsRun t) (nat_lt word (words_of t.shape)) (drive t.shape most c (StoreTo word) 1 now) (drive t.shape most c AnyEvent most now)
      (drives most c (StoreTo word) 1 now (ready c s r)) (drives most c AnyEvent most now (ready c s r))
  line_stays line.Close s r = run_out_stays s r
  line_stays (line.Cut choice) s r = r

  pub lines_stay : (lines : List Line) (s : State) → IsRun t s → IsRun t (lines_done t.shape most lines s)
  lines_stay [] s r = r
  lines_stay (l ∷ lines) s r = lines_stay lines (line_done t.shape most l s) (line_stays l s r)
