-- What is printed of a session that a run left is what the run's core says.
use Rattle.std.proofs.Common.{◌≡◌, ℕ, ◌-◌, ap, ◌∙◌, List, None, length, map}
use Rattle.std.specs.Prelude.{replicate, slice_index}
use Rattle.map_model.specs.Roomed.{lists_of}
use Rattle.image_layout.specs.Places.{Shape}
use Rattle.script_text.specs.declared.line.Line.{Line}
use Rattle.session.specs.Transcript.{transcript_of}
use Rattle.reply_text.specs.declared.left.Session.{Session}
use Rattle.reply_text.specs.Told.{tolds_of}
use Rattle.core_run.specs.Engines.{tolds_of as tolds_of_core}
use Rattle.play.specs.Played.{scripts_of, end_of_run, IsOfRun}
use Rattle.play.proofs.ended.Begun.{begun_in_run}
use Rattle.play.proofs.ended.ToldsOfRun.{same_tolds}

pub printed_by_run : (shape : Shape) (first : List ℕ) (lines : List Line) (left : Session) → IsOfRun shape first lines left
    → transcript_of (tolds_of (lists_of left.lists) left.stops) ≡ transcript_of (tolds_of_core (end_of_run shape first lines).core)
printed_by_run shape first lines left run =
    let callers = (end_of_run shape first lines).core.callers in
    ap transcript_of
    (ap (λ lists. tolds_of lists left.stops) run.lists
    ∙ ap (λ stops. tolds_of (map (λ c. c.entries) callers) stops) run.stops
    ∙ same_tolds callers (replicate (64 - length callers) None) (begun_in_run shape (slice_index first) (scripts_of lines) lines))
