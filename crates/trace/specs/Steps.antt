-- What one event more does to a trace: which value it writes, what a word may then hold, and what is then settled.
use Rattle.std.specs.Prelude.{◌≡◌, ℕ, ◌+◌, ◌%◌, ◌^◌}
use Rattle.trace.specs.Events.{Words, line_of, with_word, Event, Trace, value_at}
use Rattle.trace.specs.Events.Event.{loaded, stored, exchanged, drawn, flushed, fenced}
use Rattle.trace.specs.Media.{IsPossible}
use Rattle.trace.specs.Progress.{settled_moment, HadSince}

-- an event on these words writes x to word i
abbrev pub Writes : Words → Event → ℕ → ℕ → Type 0
Writes words (loaded c j) i x = ⊥
Writes words (stored c j y) i x = (i ≡ j) × (x ≡ y)
Writes words (exchanged c j y) i x = (i ≡ j) × (x ≡ y)
Writes words (drawn c j) i x = (i ≡ j) × (x ≡ (words j + 1) % 2 ^ 64)
Writes words (flushed c l) i x = ⊥
Writes words (fenced c) i x = ⊥

-- an event is a fence of some caller
abbrev pub IsFence : Event → Type 0
IsFence e = (c : ℕ) × (e ≡ fenced c)

-- x is a value that word i had since its line was settled
abbrev pub HadSinceSettled : Words → Trace → ℕ → ℕ → Type 0
HadSinceSettled start es i x = HadSince start es (settled_moment (line_of i) es) i x

-- the value that a word had when its line was settled
abbrev pub settled_value : Words → Trace → Words
settled_value start es i = value_at start es (settled_moment (line_of i) es) i

-- a medium is one that was possible before the event, with the word replaced that the event wrote
pub record IsReplaced (width : ℕ) (start : Words) (e : Event) (es : Trace) (words medium : Words) : Type 0 where
  pub word : ℕ
  pub new : ℕ
  pub older : Words
  pub is_written : Writes words e word new
  pub was_possible : IsPossible width start es older
  pub is_replaced : medium ≡ with_word older word new
