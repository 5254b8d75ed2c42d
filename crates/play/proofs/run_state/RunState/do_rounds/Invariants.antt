-- What is left of the rounds comes to the same.
use Rattle.core_run.specs.Running.{Setup}
use Rattle.core_run.specs.State.{State}
use Rattle.play.specs.RunStates.{Stands}
use Rattle.play.proofs.driven.Rounds.{IsInRounds}
use Rattle.play.proofs.run_state.RunState.do_rounds.Given as goal

abbrev pub invariant-loop-round : goal.invariant-loop-round
invariant-loop-round l = (t : Setup) (s : State) → Stands t s l.initial.self → IsInRounds t s l.most l._round l.self
