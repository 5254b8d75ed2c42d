-- A `serve` as a relation of bytes: the image that was in the store, the script, what was written, and the image that is in the store now.
use Rattle.std.specs.Prelude.{◌≡◌, true, false, List, ℕ}
use Rattle.image_layout.specs.Places.{Shape}
use Rattle.sound_image.specs.Image.{image_bytes, IsSoundImage}
use Rattle.session.specs.Session.{IsSession}
use Rattle.script_text.specs.declared.line.Line.{Line}
use Rattle.script_text.specs.declared.line.Mode.TheVariants.{Serve}
use Rattle.script_text.specs.Script.{IsScript}
use Rattle.serve.specs.Played.{scripts_of}

-- the bytes are a session of the script's calls, in whatever order its callers stepped, which ends by a close
pub record IsServed (start script transcript ending : List ℕ) : Type 0 where
  pub shape : Shape
  pub first : List ℕ
  pub last : List ℕ
  pub start_is : start ≡ image_bytes first
  pub ending_is : ending ≡ image_bytes last
  pub start_sound : IsSoundImage shape first
  pub lines : List Line
  pub script_is : IsScript Serve script lines
  pub session : IsSession shape first last (scripts_of lines) (record { closed = true; scheduled = false }) transcript
