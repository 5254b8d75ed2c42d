-- The bytes so far are within the limit and one, are what the source has lost, and its count has not fallen.
use Rattle.std.proofs.Common.{◌≤◌, ◌+◌, ◌-◌, length}
use Rattle.std.specs.Io.KnownBytes.{Consumes}
use Rattle.outside.proofs.whole.take_all.Given as goal

abbrev pub invariant-pulls : goal.invariant-pulls
invariant-pulls g l = record {
  bound : length l.bytes.items ≤ l.limit + 1;
  taken : Consumes (g.S.Source.left l.fn.source) (g.S.Source.left l.source) l.bytes.items;
  later : g.S.Source.faults l.fn.source ≤ g.S.Source.faults l.source;
}

abbrev pub decreases-pulls : goal.decreases-pulls
decreases-pulls g l = l.limit + 1 - length l.bytes.items
