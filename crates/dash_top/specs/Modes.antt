-- What a run of a script is, by the mode of the script.
use Rattle.std.specs.Prelude.{List, ℕ}
use Rattle.script_text.specs.declared.line.Mode.{Mode}
use Rattle.script_text.specs.declared.line.Mode.TheVariants.{Play, Serve}
use Rattle.dash_top.specs.Played.{IsPlayed}
use Rattle.dash_top.specs.Served.{IsServed}

-- the bytes of the image before, of the script, of the transcript and of the image behind it
abbrev pub IsRunIn : Mode → List ℕ → List ℕ → List ℕ → List ℕ → Type 0
IsRunIn Play start script transcript ending = IsPlayed start script transcript ending
IsRunIn Serve start script transcript ending = IsServed start script transcript ending
