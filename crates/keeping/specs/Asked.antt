-- When a memory can do an event, and what the event finds.
use Rattle.std.specs.Prelude.{◌≡◌, ℕ, ◌<◌, ◌≤◌, slice_index}
use Rattle.trace.specs.Events.{HasLine, most_unfenced}
use Rattle.op_core.specs.declared.want.Want.{Want}
use Rattle.op_core.specs.declared.want.Want.TheVariants.{Flush, Done}
use Rattle.image_layout.specs.Places.{words_of}
use Rattle.image_layout.specs.Volatile.{all_words_of}
use Rattle.world.specs.Wants.{word_of}
use Rattle.pm_trace.specs.Memory.{Memory, unfenced}

-- the value that an event finds
abbrev pub found_by : Want → Memory → ℕ
found_by w memory = slice_index memory.newest (word_of memory.shape w)

-- a memory can do the event: its word is one of the memory, its line one of the image, and the caller has fewer than eight
-- lines flushed and not fenced
pub record MayBeAsked (caller : ℕ) (w : Want) (memory : Memory) : Type 0 where
  pub caller_is : caller ≤ memory.callers
  pub word : word_of memory.shape w < all_words_of memory.shape
  pub line : (l : ℕ) → w ≡ Flush l → HasLine (words_of memory.shape) l
  pub few : (l : ℕ) → w ≡ Flush l → unfenced caller memory < most_unfenced
  pub some : w ≡ Done → ⊥
