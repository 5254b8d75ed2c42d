-- What is left of the lines comes to the same.
use Rattle.core_run.specs.Running.{Setup}
use Rattle.core_run.specs.State.{State}
use Rattle.core_run.specs.Wells.{RunsThrough}
use Rattle.play.specs.RunStates.{Stands}
use Rattle.play.proofs.driven.Rounds.{IsInLines}
use Rattle.play.proofs.run_state.RunState.do_lines.Given as goal

abbrev pub invariant-loop-line : goal.invariant-loop-line
invariant-loop-line l = (t : Setup) (s : State) → Stands t s l.initial.self → RunsThrough t l.most l.lines s → IsInLines t s l.most l.lines l.line-index l.self
