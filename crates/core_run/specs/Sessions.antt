-- A run is a session: from the image's words to those that it leaves, with what its callers were told.
use Rattle.std.specs.Prelude.{ℕ, not, is_some, true, List}
use Rattle.script_text.specs.declared.line.Line.{Line}
use Rattle.session.specs.Transcript.{transcript_of}
use Rattle.session.specs.Session.{SessionEnd, IsSession}
pub use Rattle.engine.specs.Core.{tolds_of}
use Rattle.core_run.specs.State.{State}
use Rattle.core_run.specs.Run.{core_run, cut_of, medium_words}
use Rattle.core_run.specs.Running.{Setup, IsSetup, start_of}

-- the state in which a run ends
abbrev pub end_state : Setup → List Line → State
end_state t lines = core_run t.shape (start_of t) t.scripts lines

-- the words of the medium at its end
abbrev pub left_words : Setup → List Line → List ℕ
left_words t lines = medium_words t.shape (start_of t) (end_state t lines).core (cut_of lines)

-- a run is scheduled, and closes its image unless its script ends with a cut
abbrev pub ending_of : List Line → SessionEnd
ending_of lines = record { closed = not (is_some (cut_of lines)); scheduled = true }

-- A RUN IS A SESSION, whatever its lines are
abbrev pub RunsAreSessions : Type 0
RunsAreSessions = (t : Setup) (lines : List Line) → IsSetup t
    → IsSession t.shape t.first (left_words t lines) t.scripts (ending_of lines) (transcript_of (tolds_of (end_state t lines).core))
