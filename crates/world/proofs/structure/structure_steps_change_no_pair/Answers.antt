use Rattle.world.proofs.mild.Kept.{steps_spare, steps_reply_nothing}
use Rattle.world.proofs.structure.structure_steps_change_no_pair.Goals as goal

pub returns-clause-spare : goal.returns-clause-spare
returns-clause-spare c = steps_spare

pub returns-clause-reply : goal.returns-clause-reply
returns-clause-reply c = steps_reply_nothing
