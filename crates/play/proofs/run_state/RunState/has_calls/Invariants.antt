use Rattle.std.proofs.Common.{◌≡◌, drop}
use Rattle.play.specs.Callers.{calls_left}
use Rattle.play.proofs.run_state.RunState.has_calls.Given as goal

abbrev pub invariant-loop-caller : goal.invariant-loop-caller
invariant-loop-caller l = calls_left (drop l.caller-index l.self.callers.items) ≡ calls_left l.self.callers.items
