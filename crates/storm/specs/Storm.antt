-- A storm: sessions one after another on a new image, each but the last one cut.
use Rattle.std.specs.Prelude.{◌≡◌, ℕ, suc, ◌+◌, ◌*◌, List, length, slice_index}
use Rattle.image_layout.specs.Places.{Shape}
use Rattle.map_model.specs.Roomed.{lists_of}
use Rattle.sound_image.specs.Segments.{frame_of, image_version}
use Rattle.image_file.specs.Formatted.{IsFormatted}
use Rattle.image_file.specs.Pairs.{ArePairs}
use Rattle.script_text.specs.declared.line.Line.{Line}
use Rattle.reply_text.specs.declared.left.Session.{Session}
use Rattle.reply_text.specs.declared.left.StormSum.{StormSum}
use Rattle.reply_text.specs.Told.{tolds_of, replies_in, opens_in}
use Rattle.play.specs.Played.{IsPlay}
use Rattle.storm.specs.declared.storming.Tally.{Tally}
use Rattle.storm.specs.Stream.{behind}
use Rattle.storm.specs.Scripts.{numbers_of_session, open_lines, cut_lines}

-- at most so many sessions, and calls of each caller in the script of each
abbrev pub most_sessions : ℕ
most_sessions = 1000

abbrev pub most_calls : ℕ
most_calls = 10000

-- the image: 64 slots for segments, a directory of depth 6 at the most, and mixed keys (kind 1)
abbrev pub storm_shape : Shape
storm_shape = record { segments = 64; depth = 6; kind = 1 }

-- what sessions have done so far, with one session more
abbrev pub with_session : Tally → Session → Tally
with_session t left = record {
  medium = left.medium;
  replies = t.replies + replies_in (lists_of left.lists);
  opens = t.opens + opens_in (tolds_of (lists_of left.lists) left.stops);
}

-- no session yet, on a new image
pub record IsNew (t : Tally) : Type 0 where
  pub shape : t.medium.geometry ≡ storm_shape
  pub formatted : IsFormatted storm_shape t.medium.words
  pub no_replies : t.replies ≡ 0
  pub no_opens : t.opens ≡ 0

-- one session more: a play of these lines on what the one before has left
pub record HasPlayed (before : Tally) (lines : List Line) (after : Tally) : Type 0 where
  pub left : Session
  pub play : IsPlay storm_shape before.medium.words lines left
  pub after_is : after ≡ with_session before left

-- the state of the stream when session n begins, counted from 0
abbrev pub state_at : ℕ → ℕ → ℕ → ℕ
state_at seed calls n = behind seed (numbers_of_session calls * n)

-- SO MANY SESSIONS, each ended by a power cut
pub data AreCut (seed calls : ℕ) : ℕ → Tally → Type 0 where
  none : {t : Tally} → IsNew t → AreCut seed calls 0 t
  one_more : {n : ℕ} {before after : Tally} → AreCut seed calls n before → HasPlayed before (cut_lines (state_at seed calls n) calls) after
      → AreCut seed calls (suc n) after

-- THE STORM: all its sessions but the last one are cut, and that is closed; and these are the numbers of what they did, and of the image
-- that is left
pub record IsStorm (seed sessions calls : ℕ) (sum : StormSum) : Type 0 where
  pub cuts : ℕ
  pub before : Tally
  pub after : Tally
  pub count : sessions ≡ suc cuts
  pub are_cut : AreCut seed calls cuts before
  pub last : HasPlayed before (open_lines (state_at seed calls cuts) calls) after
  pub sessions_are : sum.sessions ≡ sessions
  pub replies_are : sum.replies ≡ after.replies
  pub opens_are : sum.opens ≡ after.opens
  pub pairs_are : (pairs : List (ℕ × ℕ)) × ArePairs storm_shape (slice_index after.medium.words) pairs × (sum.pairs ≡ length pairs)
  pub version_is : sum.version ≡ image_version (frame_of storm_shape (slice_index after.medium.words))
