-- What a play of a script leaves.
use Rattle.std.specs.Prelude.{◌≡◌, ℕ, ◌-◌, Option, None, is_some, List, ◌++◌, length, map, replicate, slice_index}
use Rattle.std.specs.List.{range_with_len}
use Rattle.map_model.specs.Roomed.{lists_of}
use Rattle.map_model.specs.Weave.{most_callers, first_caller}
use Rattle.map_model.specs.declared.call.Call.{Call}
use Rattle.map_model.specs.declared.entry.Stop.{Stop}
use Rattle.image_layout.specs.Places.{Shape}
use Rattle.script_text.specs.declared.line.Line.{Line}
use Rattle.script_text.specs.Calls.{calls_of, last_caller}
use Rattle.session.specs.Transcript.{transcript_of}
use Rattle.session.specs.Session.{IsSession}
use Rattle.reply_text.specs.declared.left.Session.{Session}
use Rattle.reply_text.specs.Told.{tolds_of}
use Rattle.core_run.specs.Engines.{Caller}
use Rattle.core_run.specs.State.{State}
use Rattle.core_run.specs.Run.{core_run, cut_of, stop_of, medium_words}
use Rattle.core_run.specs.Running.{Setup, start_of}
use Rattle.core_run.specs.Sessions.{ending_of}

-- the calls of callers 1, 2 and so on, so many
abbrev pub scripts_to : ℕ → List Line → List (List Call)
scripts_to n lines = map (λ caller. calls_of caller lines) (range_with_len first_caller n)

-- the calls of all callers, up to the last that has one
abbrev pub scripts_of : List Line → List (List Call)
scripts_of lines = scripts_to (last_caller lines) lines

-- the state in which the run of these lines ends
abbrev pub end_of_run : Shape → List ℕ → List Line → State
end_of_run shape first lines = core_run shape (slice_index first) (scripts_of lines) lines

-- where the callers stopped, among those of all 64
abbrev pub stops_of : List Caller → List (Option Stop)
stops_of callers = map stop_of callers ++ replicate (most_callers - length callers) None

-- what is left is what the run leaves: the callers' entries, where they stopped, the medium, and whether it was cut
pub record IsOfRun (shape : Shape) (first : List ℕ) (lines : List Line) (left : Session) : Type 0 where
  pub same_shape : left.medium.geometry ≡ shape
  pub lists : lists_of left.lists ≡ map (λ c. c.entries) (end_of_run shape first lines).core.callers
  pub stops : left.stops ≡ stops_of (end_of_run shape first lines).core.callers
  pub words : left.medium.words ≡ medium_words shape (slice_index first) (end_of_run shape first lines).core (cut_of lines)
  pub cut : left.cut ≡ is_some (cut_of lines)

-- A PLAY of these lines, from an image with these words: its run, which is a session, with its transcript
pub record IsPlay (shape : Shape) (first : List ℕ) (lines : List Line) (left : Session) : Type 0 where
  pub run : IsOfRun shape first lines left
  pub session : IsSession shape first left.medium.words (scripts_of lines) (ending_of lines) (transcript_of (tolds_of (lists_of left.lists) left.stops))

-- what is left of a run state that stands for this state: the same, of any state
pub record IsLeftOf (t : Setup) (s : State) (choice : Option ℕ) (left : Session) : Type 0 where
  pub same_shape : left.medium.geometry ≡ t.shape
  pub lists : lists_of left.lists ≡ map (λ c. c.entries) s.core.callers
  pub stops : left.stops ≡ stops_of s.core.callers
  pub words : left.medium.words ≡ medium_words t.shape (start_of t) s.core choice
  pub cut : left.cut ≡ is_some choice

-- what a play sets up
abbrev pub setup_of : Shape → List ℕ → List (List Call) → Setup
setup_of shape first scripts = record { shape = shape; first = first; scripts = scripts }
