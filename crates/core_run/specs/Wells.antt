-- Each state between the lines of a script is one of a run: what a driver needs that runs them one after another.
use Rattle.std.specs.Prelude.{ℕ, ⊤, Option, None, Some, List, [], ◌∷◌}
use Rattle.script_text.specs.declared.line.Line.{Line}
use Rattle.core_run.specs.State.{State, beginning}
use Rattle.core_run.specs.Run.{line_done, lines_done, run_out, cut_of}
use Rattle.core_run.specs.Running.{Setup, IsSetup, IsRunning, start_of}
use Rattle.core_run.specs.Ends.{most_of}

module _ (t : Setup) (most : ℕ) where
  -- each line leaves a state of the run
  abbrev pub RunsThrough : List Line → State → Type 0
  RunsThrough [] s = ⊤
  RunsThrough (l ∷ lines) s = IsRunning t (line_done t.shape most l s) × RunsThrough lines (line_done t.shape most l s)

  -- and so does the end of the calls, where no cut comes before it
  abbrev pub RunsOut : Option ℕ → State → Type 0
  RunsOut None s = IsRunning t (run_out t.shape most s)
  RunsOut (Some choice) s = ⊤

-- the state with which a run begins
abbrev pub start_state : Setup → State
start_state t = beginning t.shape (start_of t) t.scripts

-- EACH STATE between the lines, and at the end of the calls, is one of the run
pub record RunsWell (t : Setup) (lines : List Line) : Type 0 where
  pub through : RunsThrough t (most_of t) lines (start_state t)
  pub out : RunsOut t (most_of t) (cut_of lines) (lines_done t.shape (most_of t) lines (start_state t))

abbrev pub LinesAreWell : Type 0
LinesAreWell = (t : Setup) (lines : List Line) → IsSetup t → RunsWell t lines
