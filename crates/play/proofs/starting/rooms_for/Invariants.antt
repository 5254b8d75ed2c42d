-- The room of the callers before, and that of those behind.
use Rattle.std.proofs.Common.{◌≡◌, ◌++◌, length, map, drop}
use Rattle.play.proofs.starting.rooms_for.Given as goal

abbrev pub invariant-loop-caller : goal.invariant-loop-caller
invariant-loop-caller l = l.rooms.items ++ map (λ r. length r.calls.items) (drop l.caller-index l.callers) ≡ map (λ r. length r.calls.items) l.callers
