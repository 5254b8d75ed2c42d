-- The numbers of a SplitMix64 stream.
use Rattle.std.specs.Prelude.{ℕ, zero, suc}
use Rattle.pm_trace.specs.Choice.{next_state, number_of}

-- the number that a stream gives next, by its state
unfoldable pub next_of : ℕ → ℕ
next_of state = number_of (next_state state)

-- the state of a stream behind so many of its numbers
unfoldable pub behind : ℕ → ℕ → ℕ
behind state zero = state
behind state (suc n) = next_state (behind state n)
