-- The sink has taken the bytes before `at`, and its count has not fallen.
use Rattle.std.proofs.Common.{◌≤◌, ◌-◌, length, take}
use Rattle.std.specs.Io.KnownBytes.{Appends}
use Rattle.outside.proofs.whole.put_all.Given as goal

abbrev pub invariant-pushes : goal.invariant-pushes
invariant-pushes g l = record {
  within : l.at ≤ length l.bytes;
  given : Appends (g.K.Sink.taken l.fn.sink) (g.K.Sink.taken l.sink) (take l.at l.bytes);
  later : g.K.Sink.faults l.fn.sink ≤ g.K.Sink.faults l.sink;
}

abbrev pub decreases-pushes : goal.decreases-pushes
decreases-pushes g l = length l.bytes - l.at
