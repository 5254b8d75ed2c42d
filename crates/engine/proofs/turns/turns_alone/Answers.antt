-- The weave of one list in order is that list.
use Rattle.engine.proofs.sessions.Alone.{turns_alone}
use Rattle.engine.proofs.turns.turns_alone.Goals as goal

pub returns : goal.returns
returns c = turns_alone c.turns_keep.ensures.good c.turns_keep.ensures.scripts
