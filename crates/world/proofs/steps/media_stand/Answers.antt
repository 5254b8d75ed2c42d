use Rattle.world.proofs.calls.mildly.Good.{moving_media_good}
use Rattle.world.proofs.steps.media_stand.Goals as goal

pub returns : goal.returns
returns c = moving_media_good
