-- A write that was interrupted passed nothing on.
use Rattle.std.specs.Io.KnownBytes.{Keeps}
use Rattle.outside.proofs.streams.write_through.Given as goal

abbrev pub invariant-tries : goal.invariant-tries
invariant-tries g l = Keeps (g.W.Write.contents l.initial.writer) (g.W.Write.contents l.writer)
