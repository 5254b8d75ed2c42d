-- What a run of a script's lines leaves, by its mode.
use Rattle.std.specs.Prelude.{ℕ, List}
use Rattle.image_layout.specs.Places.{Shape}
use Rattle.script_text.specs.declared.line.Line.{Line}
use Rattle.script_text.specs.declared.line.Mode.{Mode}
use Rattle.script_text.specs.declared.line.Mode.TheVariants.{Play, Serve}
use Rattle.reply_text.specs.declared.left.Session.{Session}
use Rattle.serve.specs.Played.{IsPlay}
use Rattle.serve.specs.Served.{IsServe}

abbrev pub HasRun : Mode → Shape → List ℕ → List Line → Session → Type 0
HasRun Play shape first lines left = IsPlay shape first lines left
HasRun Serve shape first lines left = IsServe shape first lines left
