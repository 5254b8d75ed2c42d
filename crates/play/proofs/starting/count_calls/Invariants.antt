-- Those of the callers before, and of those behind.
use Rattle.std.proofs.Common.{◌≡◌, ◌+◌, drop}
use Rattle.play.specs.Callers.{calls_in}
use Rattle.play.proofs.starting.count_calls.Given as goal

abbrev pub invariant-loop-caller : goal.invariant-loop-caller
invariant-loop-caller l = l.count + calls_in (drop l.caller-index l.callers) ≡ calls_in l.callers
