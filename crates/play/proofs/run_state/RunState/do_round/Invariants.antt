-- What is left of the round comes to the same.
use Rattle.core_run.specs.Running.{Setup}
use Rattle.core_run.specs.State.{State}
use Rattle.play.specs.RunStates.{Stands}
use Rattle.play.proofs.driven.Rounds.{IsInRound}
use Rattle.play.proofs.run_state.RunState.do_round.Given as goal

abbrev pub invariant-loop-index : goal.invariant-loop-index
invariant-loop-index l = (t : Setup) (s : State) → Stands t s l.initial.self → IsInRound t s l.most l.index l.self
