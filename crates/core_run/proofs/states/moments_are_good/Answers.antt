-- By how far the run is.
use Rattle.core_run.proofs.Goods.{moments_are_good}
use Rattle.core_run.proofs.states.moments_are_good.Goals as goal

pub returns : goal.returns
returns c = moments_are_good c.holding_is_good.ensures c.through_is_quiet.ensures.quiet c.through_is_quiet.ensures.map c.restart_keeps.ensures
    c.restart_begins.ensures.pairs c.close_keeps.ensures.cuts c.close_keeps.ensures.others
