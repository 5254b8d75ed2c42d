-- What is done in a run keeps a state of it: a caller that goes on, the restart, and rounds of turns.
use Rattle.std.proofs.Common.{◌≡◌, ℕ, zero, suc, Option, Some, None, List, [], ◌∷◌, refl}
use Rattle.std.specs.Prelude.{if◌then◌else◌}
use Rattle.engine.specs.Core.{Caller}
use Rattle.core_run.specs.declared.keeper.Keeper.{Keeper}
use Rattle.core_run.specs.declared.keeper.Keeper.TheVariants.{Restarting, Open, Closing, Closed}
use Rattle.core_run.specs.declared.goal.Goal.{Goal}
use Rattle.core_run.specs.declared.goal.Goal.TheVariants.{AnyEvent, Turn}
use Rattle.core_run.specs.State.{State, Deed, deed}
use Rattle.core_run.specs.Run.{counts, stops, by_deed, drive, restarted_by, restarted, round, has_calls, rounds, ready_for}
use Rattle.core_run.specs.Running.{Setup, IsSetup, DeedsAreWell}
use Rattle.core_run.specs.Along.{ComesAlong}
use Rattle.core_run.specs.Ends.{IsRun}
use Rattle.core_run.proofs.ends.Choices.{either}

module _ (wells : DeedsAreWell) (comes : ComesAlong) (t : Setup) (is : IsSetup t) where
  -- ---- one event
  pub after : (c : ℕ) (s : State) (d : Deed) → IsRun t s → deed t.shape c s ≡ Some d → IsRun t d.state
  after c s d r e = record { running = (wells t c s d is r.running e).after; along = comes t c s d is r.running r.along e }

  -- ---- a drive
  pub drive_stays : (m c : ℕ) (goal : Goal) (n : ℕ) (s : State) → IsRun t s → IsRun t (drive t.shape m c goal n s)
  drive_stays zero c goal n s r = r
  drive_stays (suc m) c goal zero s r = r
  drive_stays (suc m) c goal (suc n) s r = by (λ n' u ru. drive_stays m c goal n' u ru) (deed t.shape c s) refl
    where
      by : ((n' : ℕ) (u : State) → IsRun t u → IsRun t (drive t.shape m c goal n' u)) → (o : Option Deed) → deed t.shape c s ≡ o
          → IsRun t (by_deed goal o s (λ d. drive t.shape m c goal (if counts goal d then n else suc n) d.state))
      by rest None e = r
      by rest (Some d) e = either (IsRun t) (stops goal d) d.state (drive t.shape m c goal (if counts goal d then n else suc n) d.state) (after c s d r e)
          (rest (if counts goal d then n else suc n) d.state (after c s d r e))

  -- ---- the restart
  restarted_by_stays : (most : ℕ) (k : Keeper) (s : State) → IsRun t s → IsRun t (restarted_by t.shape most k s)
  restarted_by_stays most (Restarting op) s r = drive_stays most 0 AnyEvent most s r
  restarted_by_stays most Open s r = r
  restarted_by_stays most (Closing op) s r = r
  restarted_by_stays most Closed s r = r

  pub restarted_stays : (most : ℕ) (s : State) → IsRun t s → IsRun t (restarted t.shape most s)
  restarted_stays most s r = restarted_by_stays most s.keeper s r

  pub ready_stays : (most c : ℕ) (s : State) → IsRun t s → IsRun t (ready_for t.shape most c s)
  ready_stays most zero s r = r
  ready_stays most (suc j) s r = restarted_stays most s r

  -- ---- the rounds
  pub round_stays : (most c : ℕ) (callers : List Caller) (s : State) → IsRun t s → IsRun t (round t.shape most c callers s)
  round_stays most c [] s r = r
  round_stays most c (caller ∷ callers) s r = round_stays most (suc c) callers (drive t.shape most c Turn 1 s) (drive_stays most c Turn 1 s r)

  pub rounds_stay : (most n : ℕ) (s : State) → IsRun t s → IsRun t (rounds t.shape most n s)
  rounds_stay most zero s r = r
  rounds_stay most (suc n) s r = either (IsRun t) (has_calls t.shape most s.core.callers) (rounds t.shape most n (round t.shape most 1 s.core.callers s)) s
      (rounds_stay most n (round t.shape most 1 s.core.callers s) (round_stays most 1 s.core.callers s r)) r
