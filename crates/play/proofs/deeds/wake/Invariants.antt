-- The callers before have begun, and those behind are to.
use Rattle.std.proofs.Common.{◌≡◌, ◌++◌, map, take, drop, length}
use Rattle.play.specs.Callers.{awoken}
use Rattle.play.proofs.deeds.wake.Given as goal

abbrev pub invariant-loop-index : goal.invariant-loop-index
invariant-loop-index l = record {
  so_far : take l.index l.callers ++ map (awoken l.version) (drop l.index l.callers) ≡ map (awoken l.version) l.initial.callers;
  long : length l.callers ≡ length l.initial.callers;
}
