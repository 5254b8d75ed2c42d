use Rattle.world.proofs.moving.media.MediaKept.{media_kept}
use Rattle.world.proofs.structure.steps_keep_media.Goals as goal

pub returns : goal.returns
returns c = media_kept
