-- What a close keeps, and what it leaves.
use Rattle.std.specs.Prelude.{◌≡◌, ◌≢◌, ℕ, ◌+◌, ◌-◌, ◌^◌, ◌<◌, ◌≤◌, List, [], ◌∷◌, length, slice_index}
use Rattle.std.specs.FinMap.{get}
use Rattle.op_core.specs.declared.want.Want.TheVariants.{Done}
use Rattle.map_model.specs.Map.{Map}
use Rattle.map_model.specs.Weave.{keeper_number}
use Rattle.trace.specs.Events.{Words, Event, Trace, with_word, value, value_at, most_unfenced}
use Rattle.trace.specs.Progress.{pending}
use Rattle.trace.specs.Steps.{Writes}
use Rattle.trace.specs.Media.{IsPossible}
use Rattle.image_layout.specs.Places.{Shape, IsShape, state_word, words_of, front_words}
use Rattle.image_layout.specs.StateWord.{marker}
use Rattle.sound_image.specs.Segments.{frame_of, IsClean}
use Rattle.sound_image.specs.Image.{SaysShape, IsSoundImage}
use Rattle.session.specs.Left.{HasPairsOf}
use Rattle.bucket_words.specs.Owners.{IsStructure}
use Rattle.bucket_words.specs.Hits.{find}
use Rattle.world.specs.Ground.{Ground, callers_bound}
use Rattle.world.specs.Views.{View, At}
use Rattle.world.specs.Wants.{answer_to}
use Rattle.world.specs.World.{World}
use Rattle.world.specs.areas.Worlds.{IsWell}
use Rattle.world.specs.Attempts.{OwesNothing}
use Rattle.restart_op.specs.declared.close.CloseStep.{CloseStep}
use Rattle.restart_op.specs.declared.close.CloseStep.TheVariants.{Flush, Fence, Load, Store, FlushState, FenceState, Ended}
use Rattle.restart_op.specs.declared.close.CloseOp.{CloseOp}
use Rattle.restart_op.specs.Course.{Course, course_from, fences_of}
use Rattle.restart_op.specs.Close.{lines_of, begun, wanted, taken}
use Rattle.restart_op.specs.AtRest.{IsOpenStructure}
use Rattle.restart_op.specs.Restarted.{site_of, world_of}

-- ---- a close and its events
-- so many events of a close, over these words and after this trace
abbrev pub close_after : (shape : Shape) → Words → Trace → ℕ → Course wanted taken shape
close_after shape words trace n = course_from wanted taken shape (begun shape) words trace n

-- how many events all of it takes: each line's flush, a fence for each eight of them, and four for the state word
abbrev pub events_of : Shape → ℕ
events_of shape = lines_of shape + fences_of (lines_of shape) + 4

-- at most so many events are left
abbrev pub left_in : Shape → CloseStep → ℕ
left_in shape (Flush line waiting) = (lines_of shape - 1 - line) + 1 + fences_of ((lines_of shape - 1 - line) + 1 + waiting) + 4
left_in shape (Fence line) = lines_of shape - line + fences_of (lines_of shape - line) + 5
left_in shape Load = 4
left_in shape (Store state) = 3
left_in shape FlushState = 2
left_in shape FenceState = 1
left_in shape Ended = 0

abbrev pub left : CloseOp → ℕ
left op = left_in op.geometry op.step

-- each answer of the kind that is asked for leaves fewer events
abbrev pub Falls : Type 0
Falls = (op : CloseOp) (found : ℕ) → wanted op ≢ Done → left (taken op (answer_to (wanted op) found)) < left op

-- so it ends
abbrev pub EndsInTime : Type 0
EndsInTime = (shape : Shape) → IsShape shape → (words : Words) (trace : Trace) (n : ℕ) → events_of shape ≤ n
    → wanted (close_after shape words trace n).op ≡ Done

-- where no line waits before, never do more than eight flushed lines wait for a fence
abbrev pub FewWait : Type 0
FewWait = (shape : Shape) (words : Words) (trace : Trace) → pending keeper_number trace ≡ [] → (n : ℕ)
    → length (pending keeper_number (close_after shape words trace n).trace) ≤ most_unfenced

-- ---- before a close
-- all values that a word ever had have 64 bits
abbrev pub HaveFit : Words → Trace → Type 0
HaveFit start es = (i t : ℕ) → value_at start es t i < 2 ^ 64

-- the world is well, nobody holds or owes anything, and no line of caller 0 waits for a fence. Its structure is one on which callers run
pub record AllAreQuiet (site : Ground) (start : Words) (world : World) : Type 0 where
  pub well : IsWell site start world
  pub nothing : (j : ℕ) (v : View) → At world.views j v → OwesNothing v
  pub fits : HaveFit start world.trace
  pub says : SaysShape site.shape site.front
  pub structure : IsOpenStructure site.shape world.words
  pub fenced : pending keeper_number world.trace ≡ []

-- values fit where those that an event writes do
abbrev pub FitsByEvents : Type 0
FitsByEvents = (start : Words) (e : Event) (es : Trace) → ((i x : ℕ) → Writes (value start es) e i x → x < 2 ^ 64) → HaveFit start es
    → HaveFit start (e ∷ es)

-- a restart of a sound image leaves the world quiet, as long as no caller begins
abbrev pub QuietAfterRestart : Type 0
QuietAfterRestart = (shape : Shape) (words : List ℕ) (callers : ℕ) → IsSoundImage shape words → callers < callers_bound
    → AllAreQuiet (site_of shape words callers) (slice_index words) (world_of shape words callers)

-- ---- what it keeps
-- a medium is a sound image with the pairs of these words, and its first four words are those of the ground
pub record IsKept (site : Ground) (words : Words) (medium : List ℕ) : Type 0 where
  pub sound : IsSoundImage site.shape medium
  pub same : (k : ℕ) → find site.shape (slice_index medium) k ≡ find site.shape words k
  pub pairs : (m : Map) → ((k : ℕ) → get m k ≡ find site.shape words k) → HasPairsOf site.shape (slice_index medium) m
  pub front : (i : ℕ) → i < front_words → slice_index medium i ≡ site.front i

-- WHATEVER A CUT MAY LEAVE DURING A CLOSE is a sound image with the pairs of the table
abbrev pub CloseKeeps : Type 0
CloseKeeps = (site : Ground) (start : Words) (world : World) → AllAreQuiet site start world → (n : ℕ) (medium : List ℕ)
    → length medium ≡ words_of site.shape
    → IsPossible (words_of site.shape) start (close_after site.shape world.words world.trace n).trace (slice_index medium)
    → IsKept site world.words medium

-- a medium that a close leaves has these words, and is a sound image with the marker set; it may have stale segments
pub record IsClosed (shape : Shape) (words : Words) (medium : List ℕ) : Type 0 where
  pub settled : (i : ℕ) → i < words_of shape → slice_index medium i ≡ words i
  pub clean : IsClean (frame_of shape (slice_index medium))
  pub sound : IsSoundImage shape medium

-- THE END OF A CLOSE: one medium alone may be left, the newest words
abbrev pub CloseSettles : Type 0
CloseSettles = (site : Ground) (start : Words) (world : World) → AllAreQuiet site start world → (n : ℕ)
    → wanted (close_after site.shape world.words world.trace n).op ≡ Done → (medium : List ℕ) → length medium ≡ words_of site.shape
    → IsPossible (words_of site.shape) start (close_after site.shape world.words world.trace n).trace (slice_index medium)
    → IsClosed site.shape (close_after site.shape world.words world.trace n).words medium

-- which are those of before with the marker set
abbrev pub CloseMarks : Type 0
CloseMarks = (site : Ground) (start : Words) (world : World) → AllAreQuiet site start world → (n : ℕ)
    → wanted (close_after site.shape world.words world.trace n).op ≡ Done
    → (close_after site.shape world.words world.trace n).words ≡ with_word world.words state_word (world.words state_word + marker)

-- and the structure is as it was, but for the state word
abbrev pub CloseKeepsStructure : Type 0
CloseKeepsStructure = (site : Ground) (start : Words) (world : World) → AllAreQuiet site start world → (n : ℕ)
    → wanted (close_after site.shape world.words world.trace n).op ≡ Done → (i : ℕ) → IsStructure site.shape i → i ≢ state_word
    → (close_after site.shape world.words world.trace n).words i ≡ world.words i

-- whichever of its events were done, a close has changed the state word alone
abbrev pub ChangesStateAlone : Type 0
ChangesStateAlone = (shape : Shape) (words : Words) (trace : Trace) (n i : ℕ) → i ≢ state_word → (close_after shape words trace n).words i ≡ words i
