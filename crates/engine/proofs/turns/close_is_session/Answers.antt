-- By the law of all turns, and those of a close.
use Rattle.engine.proofs.sessions.CloseSession.{close_is_session}
use Rattle.engine.proofs.turns.close_is_session.Goals as goal

pub returns : goal.returns
returns c = close_is_session c.turns_keep.ensures.good c.turns_keep.ensures.scripts c.opened_holds.ensures c.turn_keeps.ensures.all
    c.through_is_quiet.ensures.quiet c.through_is_quiet.ensures.map c.restart_begins.ensures.pairs
    c.close_keeps.ensures.cuts c.close_keeps.ensures.ends c.close_keeps.ensures.marks
