-- The key stands at none of the positions before this one.
use Rattle.std.proofs.Common.{ℕ, ◌<◌}
use Rattle.whole_segment.specs.Records.{first_in, key_in}
use Rattle.whole_segment.specs.Order.{IsAt}
use Rattle.whole_segment.proofs.loaded.Loaded.stands_before.Given as goal

abbrev pub invariant-loop-position : goal.invariant-loop-position
invariant-loop-position l = (p : ℕ) → p < l.position → ¬ IsAt (first_in l.self) (key_in l.self) l.home l.key p
