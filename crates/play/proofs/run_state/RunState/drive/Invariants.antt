-- What is left of the drive comes to the same.
use Rattle.core_run.specs.Running.{Setup}
use Rattle.core_run.specs.State.{State}
use Rattle.play.specs.RunStates.{Stands}
use Rattle.play.proofs.driven.Drives.{IsDriven}
use Rattle.play.proofs.run_state.RunState.drive.Given as goal

abbrev pub invariant-loop-event : goal.invariant-loop-event
invariant-loop-event l = (t : Setup) (s : State) → Stands t s l.initial.self → IsDriven t s l.most l.caller l.goal l.n l._event l.left l.self
