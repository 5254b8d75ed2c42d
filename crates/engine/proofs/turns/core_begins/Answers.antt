-- By the beginning of a call.
use Rattle.engine.proofs.holding.Beginnings.{core_begins}
use Rattle.engine.proofs.turns.core_begins.Goals as goal

pub returns : goal.returns
returns c = core_begins c.fits_the_world.ensures.begins
