use Rattle.world.proofs.stepping.Rests.{current_segments_rest}
use Rattle.world.proofs.steps.current_segments_rest.Goals as goal

pub returns : goal.returns
returns c = current_segments_rest
