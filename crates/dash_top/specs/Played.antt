-- A `play` as a relation of bytes: the image that was in the store, the script, what was written, and the image that
-- is in the store now.
use Rattle.std.specs.Prelude.{◌≡◌, List, ℕ, slice_index}
use Rattle.image_layout.specs.Places.{Shape}
use Rattle.sound_image.specs.Image.{image_bytes, IsSoundImage}
use Rattle.session.specs.Transcript.{transcript_of}
use Rattle.session.specs.Session.{IsSession}
use Rattle.script_text.specs.declared.line.Line.{Line}
use Rattle.script_text.specs.declared.line.Mode.TheVariants.{Play}
use Rattle.script_text.specs.Script.{IsScript}
use Rattle.serve.specs.Runs.{cut_of, medium_words, ending_of, tolds_of}
use Rattle.serve.specs.Played.{scripts_of, end_of_run}

-- the bytes are those that the run of the script's lines leaves, and they are a session, which ends by a close where the
-- script has no cut
pub record IsPlayed (start script transcript ending : List ℕ) : Type 0 where
  pub shape : Shape
  pub first : List ℕ
  pub last : List ℕ
  pub start_is : start ≡ image_bytes first
  pub ending_is : ending ≡ image_bytes last
  pub start_sound : IsSoundImage shape first
  pub lines : List Line
  pub script_is : IsScript Play script lines
  -- what is printed is what the run's callers were told, and what is stored is what the run's medium holds
  pub printed : transcript ≡ transcript_of (tolds_of (end_of_run shape first lines).core)
  pub left : last ≡ medium_words shape (slice_index first) (end_of_run shape first lines).core (cut_of lines)
  pub session : IsSession shape first last (scripts_of lines) (ending_of lines) transcript
