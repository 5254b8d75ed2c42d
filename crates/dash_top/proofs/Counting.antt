-- A count that rose since it stood higher rose since it stood lower.
use Rattle.std.proofs.Common.{ℕ, ◌≤◌, arith}
use Rattle.outside.specs.Causes.{Rose}

pub rose_before : (before between now : ℕ) → before ≤ between → Rose between now → Rose before now
rose_before before between now le rose = omega (arith, le, rose)
