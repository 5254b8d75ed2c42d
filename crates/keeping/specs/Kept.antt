-- What a restart and a close find of a memory, and what they leave of it.
use Rattle.std.specs.Prelude.{◌≡◌, ℕ, ◌<◌, List, map, slice_index, slice_set, if◌then◌else◌}
use Rattle.std.specs.List.{range_with_len}
use Rattle.op_core.specs.declared.want.Want.{Want}
use Rattle.op_core.specs.declared.want.Want.TheVariants.{Load, Done}
use Rattle.trace.specs.Events.{Words, Trace, value}
use Rattle.image_layout.specs.Places.{Shape, state_word, words_of}
use Rattle.restart_op.specs.declared.restart.Started.{Started}
use Rattle.restart_op.specs.Restart.{wanted as restart_wanted}
use Rattle.restart_op.specs.Restarted.{restart_after}
use Rattle.restart_op.specs.Close.{wanted}
use Rattle.image_layout.specs.StateWord.{with_marker}
use Rattle.restart_op.specs.Closing.{close_after}
use Rattle.pm_trace.specs.Memory.{Memory}
use Rattle.pm_trace.specs.TraceOf.{IsTraceOf}

-- some events led to this memory
abbrev pub IsTraced : Memory → Type 0
IsTraced memory = (start : Words) × (es : Trace) × IsTraceOf start es memory

-- the newest words of the image
abbrev pub image_of : Memory → List ℕ
image_of memory = map (slice_index memory.newest) (range_with_len 0 (words_of memory.shape))

-- the same with the clean marker set
abbrev pub marked_image : Memory → List ℕ
marked_image memory = slice_set (image_of memory) state_word (with_marker (slice_index memory.newest state_word))

-- of each word of the image the newest value has settled
abbrev pub IsSettled : Memory → Type 0
IsSettled memory = (w : ℕ) → w < words_of memory.shape → slice_index memory.settled w ≡ slice_index memory.newest w

-- how many steps an event takes: one for the load of a word of the image
abbrev pub steps_for : Want → ℕ
steps_for (Load i) = 1
steps_for w = 0

-- and how many a sweep takes beside them: one for each slot
abbrev pub swept_slots : Shape → Started → ℕ
swept_slots shape started = if started.swept then shape.segments else 0

-- a restart of the old memory, event by event, led to the new one and has ended
pub record IsRestartedFrom (start : Words) (es : Trace) (old new : Memory) : Type 0 where
  pub events : ℕ
  pub ended : restart_wanted (restart_after old.shape (value start es) es events).op ≡ Done
  pub traced : IsTraceOf start (restart_after old.shape (value start es) es events).trace new

-- a close of the old memory, event by event, led to the new one and has ended
pub record IsClosedFrom (start : Words) (es : Trace) (old new : Memory) : Type 0 where
  pub events : ℕ
  pub ended : wanted (close_after old.shape (value start es) es events).op ≡ Done
  pub traced : IsTraceOf start (close_after old.shape (value start es) es events).trace new
