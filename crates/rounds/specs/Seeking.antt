-- The first number that passes a test.
use Rattle.std.specs.Prelude.{ℕ, zero, suc, ◌+◌, Bool, if◌then◌else◌}

-- the first number from one on that passes a test, of so many; behind them where none does
unfoldable pub seek : (ℕ → Bool) → ℕ → ℕ → ℕ
seek test zero from = from
seek test (suc n) from = if test from then from else seek test n (from + 1)
