-- The script of a session of a storm, from the numbers of a stream that has this state when the session begins.
use Rattle.std.specs.Prelude.{ℕ, ◌+◌, ◌*◌, ◌%◌, ◌==◌, nat_lt, if◌then◌else◌, List, [], ◌∷◌, ◌++◌, map}
use Rattle.std.specs.List.{range_with_len}
use Rattle.map_model.specs.declared.call.Call.{Call}
use Rattle.map_model.specs.declared.call.Call.TheVariants.{Get, Insert, Update, Remove}
use Rattle.map_model.specs.Weave.{first_caller}
use Rattle.script_text.specs.declared.line.Line.{Line}
use Rattle.script_text.specs.declared.line.Line.TheVariants.{Call as CallLine, Step, Cut}
use Rattle.pm_trace.specs.Choice.{first_stream}
use Rattle.storm.specs.Stream.{next_of, behind}

-- how many callers there are
abbrev pub storm_callers : ℕ
storm_callers = 4

-- how many keys there are
abbrev pub storm_keys : ℕ
storm_keys = 4096

-- how many lines of the schedule there are
abbrev pub storm_steps : ℕ
storm_steps = 16

-- a step has fewer events
abbrev pub most_step : ℕ
most_step = 1000

-- a call by three numbers: its kind, its key and the value, where there is one. Of eight kinds four insert, one updates, one removes
-- and two get
abbrev pub call_by : ℕ → ℕ → ℕ → Call
call_by kind key value =
    if nat_lt kind 4 then Insert key value else (if kind == 4 then Update key value else (if kind == 5 then Remove key else Get key))

-- the call that the next three numbers make
abbrev pub call_at : ℕ → Call
call_at state = call_by (next_of state % 8) (next_of (behind state 1) % storm_keys) (next_of (behind state 2))

-- call i, counted from 0: the callers take turns
abbrev pub call_line : ℕ → ℕ → Line
call_line state i = CallLine (first_caller + i % storm_callers) (call_at (behind state (3 * i)))

-- so many calls of each caller
abbrev pub call_lines : ℕ → ℕ → List Line
call_lines state calls = map (call_line state) (range_with_len 0 (storm_callers * calls))

-- step i: a caller and a number of events
abbrev pub step_at : ℕ → Line
step_at state = Step (first_caller + next_of state % storm_callers) (next_of (behind state 1) % most_step)

abbrev pub step_line : ℕ → ℕ → Line
step_line state i = step_at (behind state (2 * i))

abbrev pub step_lines : ℕ → List Line
step_lines state = map (step_line state) (range_with_len 0 storm_steps)

-- a power cut whose choice is a stream
abbrev pub cut_at : ℕ → Line
cut_at state = Cut (first_stream + next_of state % first_stream)

-- how many numbers these lines take
abbrev pub numbers_of_calls : ℕ → ℕ
numbers_of_calls calls = 3 * (storm_callers * calls)

abbrev pub numbers_of_steps : ℕ
numbers_of_steps = 2 * storm_steps

abbrev pub numbers_of_session : ℕ → ℕ
numbers_of_session calls = numbers_of_calls calls + numbers_of_steps + 1

-- THE SCRIPT of a session: the calls, and then the schedule
abbrev pub open_lines : ℕ → ℕ → List Line
open_lines state calls = call_lines state calls ++ step_lines (behind state (numbers_of_calls calls))

-- with a power cut at its end
abbrev pub cut_lines : ℕ → ℕ → List Line
cut_lines state calls = open_lines state calls ++ cut_at (behind state (numbers_of_calls calls + numbers_of_steps)) ∷ []
