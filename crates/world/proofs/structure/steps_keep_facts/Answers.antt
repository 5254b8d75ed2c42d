use Rattle.world.proofs.moving.media.Said.{facts_kept}
use Rattle.world.proofs.structure.steps_keep_facts.Goals as goal

pub returns : goal.returns
returns c = facts_kept
