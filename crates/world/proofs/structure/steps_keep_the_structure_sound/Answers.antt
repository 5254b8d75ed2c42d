use Rattle.world.proofs.moving.media.Said.{sound_kept}
use Rattle.world.proofs.structure.steps_keep_the_structure_sound.Goals as goal

pub returns : goal.returns
returns c = sound_kept
