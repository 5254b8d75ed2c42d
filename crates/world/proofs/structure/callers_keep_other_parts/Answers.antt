use Rattle.world.proofs.mild.Callers.{callers_keep_others}
use Rattle.world.proofs.structure.callers_keep_other_parts.Goals as goal

pub returns : goal.returns
returns c = callers_keep_others
