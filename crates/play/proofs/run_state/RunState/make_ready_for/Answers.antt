-- It stands where it stood before.
use Rattle.play.proofs.run_state.RunState.make_ready_for.Goals as goal

pub end_restart-requires : goal.end_restart-requires
end_restart-requires c = c.requires
