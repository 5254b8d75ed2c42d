-- When what a word holds is safe: its line was flushed, and the caller that flushed it has fenced since.
use Rattle.std.specs.Prelude.{◌≡◌, ℕ, ◌≤◌, ◌⊎◌, ◌∷◌, ◌++◌, length, Contains}
use Rattle.trace.specs.Events.{Words, line_of, Trace, value_at}
use Rattle.trace.specs.Events.Event.{flushed, fenced}

-- at moment t a caller flushed the line, and later that same caller fenced
pub record IsFencedFlush (es : Trace) (line t : ℕ) : Type 0 where
  pub caller : ℕ
  pub newer : Trace
  pub older : Trace
  pub split : es ≡ newer ++ flushed caller line ∷ older
  pub moment : t ≡ length older
  pub fence : Contains newer (fenced caller)

-- the settled moment of a line: the latest such moment, or 0 if there is none
pub record IsSettledMoment (es : Trace) (line t : ℕ) : Type 0 where
  pub some : (t ≡ 0) ⊎ IsFencedFlush es line t
  pub latest : (u : ℕ) → IsFencedFlush es line u → u ≤ t

-- the settled value of a word: the one that it had at its settled moment
pub record IsSettledValue (start : Words) (es : Trace) (i x : ℕ) : Type 0 where
  pub t : ℕ
  pub is_settled : IsSettledMoment es (line_of i) t
  pub is_value : x ≡ value_at start es t i
