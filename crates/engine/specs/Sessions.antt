-- What the callers were told and what a power cut leaves make a session.
use Rattle.std.specs.Prelude.{◌≡◌, ℕ, Bool, true, false, List, length, slice_index}
use Rattle.trace.specs.Media.{IsPossible}
use Rattle.map_model.specs.declared.call.Call.{Call}
use Rattle.map_model.specs.Map.{Map}
use Rattle.image_layout.specs.Places.{Shape, words_of}
use Rattle.session.specs.Left.{HasPairsOf}
use Rattle.session.specs.Transcript.{transcript_of}
use Rattle.session.specs.Session.{IsSession}
use Rattle.restart_op.specs.Course.{Course}
use Rattle.restart_op.specs.Close.{wanted as close_wanted, taken as close_taken}
use Rattle.restart_op.specs.Closing.{close_after}
use Rattle.op_core.specs.declared.want.Want.TheVariants.{Done}
use Rattle.engine.specs.Core.{Core, run, tolds_of}
use Rattle.engine.specs.Laws.{IsServedImage, opened, AreScripts, NoneRuns}

-- so many events of a close after turns
abbrev pub closed : (shape : Shape) → List ℕ → List (List Call) → List ℕ → ℕ → Course close_wanted close_taken shape
closed shape words scripts turns n =
    let core : Core = run shape turns (opened shape words scripts) in
    close_after shape core.words core.trace n

-- A SCHEDULED RUN THAT A POWER CUT ENDS is a session: after whatever turns, with whatever words the cut may leave, and with the
-- lines of what each caller was told
abbrev pub CutIsSession : Type 0
CutIsSession = (shape : Shape) (words : List ℕ) → IsServedImage shape words
    → (opening : Map) → HasPairsOf shape (slice_index words) opening
    → (scripts : List (List Call)) → AreScripts scripts
    → (turns : List ℕ) (medium : List ℕ) → length medium ≡ words_of shape
    → IsPossible (words_of shape) (slice_index words) (run shape turns (opened shape words scripts)).trace (slice_index medium)
    → IsSession shape words medium scripts (record { closed = false; scheduled = true }) (transcript_of (tolds_of (run shape turns (opened shape words scripts))))

-- A RUN THAT ENDS BY A CLOSE is a session: no engine of a caller runs any more, a close has done all its events, and whatever words
-- the power may then leave
abbrev pub CloseIsSession : Type 0
CloseIsSession = (shape : Shape) (words : List ℕ) → IsServedImage shape words
    → (opening : Map) → HasPairsOf shape (slice_index words) opening
    → (scripts : List (List Call)) → AreScripts scripts
    → (turns : List ℕ) → NoneRuns (run shape turns (opened shape words scripts))
    → (n : ℕ) → close_wanted (closed shape words scripts turns n).op ≡ Done
    → (medium : List ℕ) → length medium ≡ words_of shape
    → IsPossible (words_of shape) (slice_index words) (closed shape words scripts turns n).trace (slice_index medium)
    → (scheduled : Bool)
    → IsSession shape words medium scripts (record { closed = true; scheduled = scheduled }) (transcript_of (tolds_of (run shape turns (opened shape words scripts))))
