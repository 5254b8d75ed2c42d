-- What a device is to the list of what callers did to it.
use Rattle.std.specs.Prelude.{◌≡◌, ℕ, ◌+◌, ◌<◌, ◌≤◌, ◌∷◌, List, length, slice_index, All, Any, AllPairs, Contains}
use Rattle.image_layout.specs.Places.{words_of}
use Rattle.trace.specs.Media.{IsPossible}
use Rattle.trace.specs.Events.{Words, Event, Trace, value, line_words, first_of_line}
use Rattle.trace.specs.Events.Event.{fenced}
use Rattle.trace.specs.Settling.{IsSettledValue}
use Rattle.trace.specs.Progress.{pending, latest_of}
use Rattle.pm_trace.specs.declared.flushes.Flush.{Flush}
use Rattle.pm_trace.specs.Memory.{Memory, unfenced}

-- when a flush was made: the latest of its line that its caller has not fenced
abbrev pub moment_of : Trace → Flush → ℕ
moment_of es f = latest_of f.line (pending f.caller es)

-- a flush holds the values that its line would have settled if its caller fenced now
abbrev pub HoldsSettled : Words → Trace → Flush → Type 0
HoldsSettled start es f = (k : ℕ) → k < line_words → IsSettledValue start (fenced f.caller ∷ es) (first_of_line f.line + k) (slice_index f.words k)

-- these events, from these words on, led to this memory
pub record IsTraceOf (start : Words) (es : Trace) (memory : Memory) : Type 0 where
  pub newest : (w : ℕ) → slice_index memory.newest w ≡ value start es w
  pub settled : (w : ℕ) → IsSettledValue start es w (slice_index memory.settled w)
  -- the flushes are those that are pending, of each line of a caller the latest
  pub each : All (λ f. Contains (pending f.caller es) (f.line, moment_of es f)) memory.flushes
  pub whole : (c l t : ℕ) → Contains (pending c es) (l, t) → Any (λ f. (f.caller ≡ c) × (f.line ≡ l)) memory.flushes
  pub once : (c : ℕ) → unfenced c memory ≤ length (pending c es)
  -- in the order in which they were made
  pub ordered : AllPairs (λ f g. moment_of es f ≤ moment_of es g) memory.flushes
  pub held : All (HoldsSettled start es) memory.flushes

-- whatever led to the old memory, with this event behind it leads to the new one
abbrev pub Follows : Memory → Event → Memory → Type 0
Follows old e new = (start : Words) (es : Trace) → IsTraceOf start es old → IsTraceOf start (e ∷ es) new

-- whatever led to the memory, a power cut may leave these words of the image
abbrev pub MayLeave : Memory → List ℕ → Type 0
MayLeave memory words = (start : Words) (es : Trace) → IsTraceOf start es memory → IsPossible (words_of memory.shape) start es (slice_index words)
