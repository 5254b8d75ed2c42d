use Rattle.world.proofs.calls.standing.Every.{every_step}
use Rattle.world.proofs.calls.mildly.Well.{steps_keep_well}
use Rattle.world.proofs.steps.worlds_stay_well.Goals as goal

pub returns : goal.returns
returns c = steps_keep_well every_step
