-- By the laws of a close.
use Rattle.core_run.proofs.ends.Ended.{closed_is_closed}
use Rattle.core_run.proofs.states.closed_is_closed.Goals as goal

pub returns : goal.returns
returns c = closed_is_closed c.through_is_quiet.ensures.quiet c.through_is_quiet.ensures.map c.restart_begins.ensures.pairs
    c.close_keeps.ensures.cuts c.close_keeps.ensures.ends
