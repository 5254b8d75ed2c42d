use Rattle.world.proofs.calls.leaving.Media.{media_by_callers}
use Rattle.world.proofs.structure.callers_keep_media.Goals as goal

pub returns : goal.returns
returns c = media_by_callers
