-- What a contract sees of a device: its words, newest and settled, and the lines that were flushed and not yet fenced.
use Rattle.std.specs.Prelude.{ℕ, ◌==◌, List, length, filter}
use Rattle.trace.specs.Events.{HasLine}
use Rattle.image_layout.specs.Places.{Shape, words_of}
use Rattle.pm_trace.specs.declared.flushes.Flush.{Flush}

pub record Memory : Type 0 where
  -- how the image is laid out
  pub shape : Shape
  -- the greatest number of a caller
  pub callers : ℕ
  -- the newest and the settled value of each word
  pub newest : List ℕ
  pub settled : List ℕ
  -- the flushes that are not fenced, each with the words of its line; the oldest first
  pub flushes : List Flush

-- a line of the image
abbrev pub IsLine : Shape → ℕ → Type 0
IsLine shape line = HasLine (words_of shape) line

-- the flushes of a caller among these
abbrev pub flushes_of : ℕ → List Flush → List Flush
flushes_of caller flushes = filter (λ f. f.caller == caller) flushes

-- how many lines of a caller are flushed and not fenced
abbrev pub unfenced : ℕ → Memory → ℕ
unfenced caller memory = length (flushes_of caller memory.flushes)
