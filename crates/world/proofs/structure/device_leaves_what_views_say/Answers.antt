use Rattle.world.proofs.moving.media.Tying.{device_leaves_moving}
use Rattle.world.proofs.structure.device_leaves_what_views_say.Goals as goal

pub returns : goal.returns
returns c = device_leaves_moving
