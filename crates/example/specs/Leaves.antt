-- What a script leaves of a new image: the pairs of the image with which its session ends.
use Rattle.std.specs.Prelude.{List, ℕ, slice_index}
use Rattle.image_layout.specs.Places.{Shape}
use Rattle.script_text.specs.declared.line.Line.{Line}
use Rattle.script_text.specs.declared.line.Mode.TheVariants.{Play}
use Rattle.script_text.specs.Script.{IsScript}
use Rattle.session.specs.Session.{IsSession}
use Rattle.play.specs.Runs.{ending_of}
use Rattle.image_file.specs.Formatted.{IsFormatted}
use Rattle.image_file.specs.Pairs.{ArePairs}
use Rattle.play.specs.Played.{scripts_of}

pub record Leaves (script : List ℕ) (pairs : List (ℕ × ℕ)) : Type 0 where
  pub shape : Shape
  pub first : List ℕ
  pub last : List ℕ
  pub lines : List Line
  pub transcript : List ℕ
  pub is_new : IsFormatted shape first
  pub script_is : IsScript Play script lines
  pub session : IsSession shape first last (scripts_of lines) (ending_of lines) transcript
  pub are_pairs : ArePairs shape (slice_index last) pairs
