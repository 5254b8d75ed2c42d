-- What a run of a script leaves is a run of the bytes that were read, by its mode.
use Rattle.std.proofs.Common.{◌≡◌, ℕ, List, refl, sym, ◌∙◌, subst, true, false}
use Rattle.map_model.specs.Roomed.{lists_of}
use Rattle.image_layout.specs.Places.{Shape}
use Rattle.sound_image.specs.Image.{image_bytes, IsSoundImage}
use Rattle.session.specs.Transcript.{transcript_of}
use Rattle.session.specs.Session.{IsSession}
use Rattle.script_text.specs.declared.line.Line.{Line}
use Rattle.script_text.specs.declared.line.Mode.{Mode}
use Rattle.script_text.specs.declared.line.Mode.TheVariants.{Play, Serve}
use Rattle.script_text.specs.Script.{IsScript}
use Rattle.reply_text.specs.declared.left.Session.{Session}
use Rattle.reply_text.specs.Told.{tolds_of}
use Rattle.serve.specs.Runs.{ending_of}
use Rattle.serve.specs.Played.{scripts_of}
use Rattle.serve.proofs.Printed.{printed_by_run}
use Rattle.dash_top.specs.Modes.{IsRunIn}
use Rattle.dash_top.specs.Ran.{HasRun}

pub is_run : (mode : Mode) (shape : Shape) (first script : List ℕ) (lines : List Line) (left : Session) (transcript ending : List ℕ)
    → IsSoundImage shape first → IsScript mode script lines → HasRun mode shape first lines left
    → transcript ≡ transcript_of (tolds_of (lists_of left.lists) left.stops) → ending ≡ image_bytes left.medium.words
    → IsRunIn mode (image_bytes first) script transcript ending
is_run Play shape first script lines left transcript ending sound good has text file = record {
  shape = shape;
  first = first;
  last = left.medium.words;
  start_is = refl;
  ending_is = file;
  start_sound = sound;
  lines = lines;
  script_is = good;
  printed = text ∙ printed_by_run shape first lines left has.run;
  left = has.run.words;
  session = subst (λ (t : List ℕ). IsSession shape first left.medium.words (scripts_of lines) (ending_of lines) t) (sym text) has.session;
}
is_run Serve shape first script lines left transcript ending sound good has text file = record {
  shape = shape;
  first = first;
  last = left.medium.words;
  start_is = refl;
  ending_is = file;
  start_sound = sound;
  lines = lines;
  script_is = good;
  session = subst (λ (t : List ℕ). IsSession shape first left.medium.words (scripts_of lines) (record { closed = true; scheduled = false }) t) (sym text) has.session;
}
