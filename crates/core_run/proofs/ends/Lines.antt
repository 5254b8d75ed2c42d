-- Each line of a script leaves a state of the run, one after another, and so does the run.
use Rattle.std.proofs.Common.{◌≡◌, ℕ, ◌≤◌, Option, None, Some, List, [], ◌∷◌, refl, sym, ◌∙◌, subst, arith}
use Rattle.std.proofs.lemmas.Option.{none-some}
use Rattle.script_text.specs.declared.line.Line.{Line}
use Rattle.core_run.specs.State.{State}
use Rattle.core_run.specs.declared.keeper.Keeper.TheVariants.{Closed}
use Rattle.core_run.specs.Run.{line_done, lines_done, cut_of, state_at_end}
use Rattle.core_run.specs.Running.{Setup, IsSetup}
use Rattle.core_run.specs.States.{RunBegins}
use Rattle.core_run.specs.Along.{BeginsAlong}
use Rattle.core_run.specs.Ends.{most_of, IsRun, LineStays, LinesStay, RunOutStays, ClosedStays, ClosedEnds, IsWellRun}
use Rattle.core_run.specs.Wells.{RunsThrough, RunsOut, start_state, RunsWell}

module _ (begins : RunBegins) (along : BeginsAlong) (t : Setup) (is : IsSetup t) where
  enough : most_of t ≤ most_of t
  enough = omega arith

  begun : IsRun t (start_state t)
  begun = record { running = begins t is; along = along t is }

  -- ---- the run
  pub run_is_well : LinesStay → ClosedStays → ClosedEnds → (lines : List Line) → IsWellRun t lines
  run_is_well lines_stay closed_stays closed_ends lines = by (cut_of lines) refl
    where
      at_lines : State
      at_lines = lines_done t.shape (most_of t) lines (start_state t)

      run : IsRun t at_lines
      run = lines_stay t (most_of t) lines (start_state t) is enough begun

      by : (o : Option ℕ) → cut_of lines ≡ o → IsWellRun t lines
      by None none = record {
        is_run = subst (λ o. IsRun t (state_at_end t.shape (most_of t) lines o (start_state t))) (sym none) (closed_stays t (most_of t) at_lines is enough run);
        is_closed = λ _. subst (λ o. (state_at_end t.shape (most_of t) lines o (start_state t)).keeper ≡ Closed) (sym none) (closed_ends t (most_of t) at_lines is enough run);
      }
      by (Some choice) cut = record {
        is_run = subst (λ o. IsRun t (state_at_end t.shape (most_of t) lines o (start_state t))) (sym cut) run;
        is_closed = λ none. absurd (none-some choice (sym none ∙ cut));
      }

module _ (begins : RunBegins) (along : BeginsAlong) (line_stays : LineStays) (lines_stay : LinesStay) (out_stays : RunOutStays) (t : Setup) (is : IsSetup t) where
  through : (lines : List Line) (s : State) → IsRun t s → RunsThrough t (most_of t) lines s
  through [] s run = tt
  through (l ∷ lines) s run = let next = line_stays t (most_of t) l s is (enough begins along t is) run in (next.running, through lines (line_done t.shape (most_of t) l s) next)

  out : (choice : Option ℕ) (s : State) → IsRun t s → RunsOut t (most_of t) choice s
  out None s run = (out_stays t (most_of t) s is (enough begins along t is) run).running
  out (Some choice) s run = tt

  pub lines_are_well : (lines : List Line) → RunsWell t lines
  lines_are_well lines = record {
    through = through lines (start_state t) (begun begins along t is);
    out = out (cut_of lines) (lines_done t.shape (most_of t) lines (start_state t)) (lines_stay t (most_of t) lines (start_state t) is (enough begins along t is) (begun begins along t is));
  }
