use Rattle.world.proofs.calls.standing.Every.{every_step}
use Rattle.world.proofs.steps.each_step_keeps.Goals as goal

pub returns : goal.returns
returns c = every_step
