-- What callers are told whose calls are served by threads.
use Rattle.std.specs.Prelude.{◌≡◌, ℕ, true, false, None, List, [], ◌∷◌, map, slice_index}
use Rattle.std.specs.List.{AllZip}
use Rattle.std.specs.FinMap.{get}
use Rattle.map_model.specs.declared.call.Call.{Call}
use Rattle.map_model.specs.declared.entry.Entry.{Entry}
use Rattle.map_model.specs.Map.{Map}
use Rattle.image_layout.specs.Places.{Shape}
use Rattle.sound_image.specs.Segments.{frame_of, IsClean}
use Rattle.sound_image.specs.Image.{IsSoundImage}
use Rattle.session.specs.Left.{HasPairsOf}
use Rattle.session.specs.Transcript.{Told, transcript_of}
use Rattle.session.specs.Session.{IsSession}
use Rattle.shared_image.specs.Restarted.{words_at_end}
use Rattle.world.specs.Ground.{Ground}
use Rattle.script_text.specs.declared.line.Line.{Line}
use Rattle.map_model.specs.Roomed.{lists_of}
use Rattle.play.specs.Played.{scripts_of}
use Rattle.reply_text.specs.Told.{tolds_of}
use Rattle.reply_text.specs.declared.left.Session.{Session}
use Rattle.shared_image.specs.Closed.{HasWhatWasReplied, WasEnded}

-- each call has its entry, in their order
abbrev pub AreMade : List Call → List Entry → Type 0
AreMade calls entries = map (λ e. e.call) entries ≡ calls

-- what a caller was told whose calls all have their replies
abbrev pub told_by : List Entry → Told
told_by entries = record { entries = entries; left_open = None }

-- A SESSION WAS SERVED: `scripts` are the calls of callers 1, 2, 3 and so on, and `lists` their entries; the words of the image before and behind
-- it are `first` and `last`
abbrev pub IsServedSession : Shape → List ℕ → List (List Call) → List (List Entry) → List ℕ → Type 0
IsServedSession shape first scripts lists last =
    IsSession shape first last scripts (record { closed = true; scheduled = false }) (transcript_of (map told_by lists)) × AllZip AreMade scripts lists

-- an image was sound, and its restart left the words that callers shared, with its pairs
pub record WasPoweredOn (site : Ground) (first : List ℕ) : Type 0 where
  pub image : IsSoundImage site.shape first
  pub restarted : site.front ≡ words_at_end site.shape first
  pub started : (m : Map) → HasPairsOf site.shape (slice_index first) m → (k : ℕ) → get m k ≡ site.start k

-- an image was restarted, shared and closed, with these replies of its callers; the keeper has none
pub record WasShared (site : Ground) (first : List ℕ) (lists : List (List Entry)) (last : List ℕ) : Type 0 where
  pub power_on : WasPoweredOn site first
  pub sound : IsSoundImage site.shape last
  pub clean : IsClean (frame_of site.shape (slice_index last))
  pub replied : HasWhatWasReplied site ([] ∷ lists) last
  pub ended : WasEnded site ([] ∷ lists) last

abbrev pub ServedIsSession : Type 0
ServedIsSession = (site : Ground) (first last : List ℕ) (scripts : List (List Call)) (lists : List (List Entry)) → WasShared site first lists last → AllZip AreMade scripts lists
    → (opening : Map) → HasPairsOf site.shape (slice_index first) opening → IsServedSession site.shape first scripts lists last

-- WHAT IS LEFT OF CALLS THAT WERE SERVED, which the lines of a script give to their callers: an image of the same shape that was closed, and a session of
-- these calls, each of which has its reply
pub record IsServe (shape : Shape) (first : List ℕ) (lines : List Line) (left : Session) : Type 0 where
  pub same_shape : left.medium.geometry ≡ shape
  pub uncut : left.cut ≡ false
  pub session : IsSession shape first left.medium.words (scripts_of lines) (record { closed = true; scheduled = false }) (transcript_of (tolds_of (lists_of left.lists) left.stops))
