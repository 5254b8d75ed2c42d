-- By the law of all turns.
use Rattle.engine.proofs.sessions.CutSession.{cut_is_session}
use Rattle.engine.proofs.turns.cut_is_session.Goals as goal

pub returns : goal.returns
returns c = cut_is_session c.turns_keep.ensures.good c.turns_keep.ensures.scripts
