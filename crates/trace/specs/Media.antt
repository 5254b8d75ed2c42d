-- What a power cut may leave: of each word, by itself, its settled value or any value that it had since.
use Rattle.std.specs.Prelude.{◌≡◌, ℕ, ◌<◌, ◌≤◌, length}
use Rattle.trace.specs.Events.{Words, line_of, Trace, value_at}
use Rattle.trace.specs.Settling.{IsSettledMoment}

-- word i may hold x after a power cut: x is its value at some moment from its settled moment to now
pub record MayHold (start : Words) (es : Trace) (i x : ℕ) : Type 0 where
  pub from : ℕ
  pub is_settled : IsSettledMoment es (line_of i) from
  pub t : ℕ
  pub since : from ≤ t
  pub up_to_now : t ≤ length es
  pub is_value : x ≡ value_at start es t i

-- a possible medium: of the words below `width`, which alone are kept, each may hold what the medium has
abbrev pub IsPossible : ℕ → Words → Trace → Words → Type 0
IsPossible width start es medium = (i : ℕ) → i < width → MayHold start es i (medium i)
