use Rattle.world.proofs.fitting.lasting.Readying.{ready_everywhere, ready_nowhere}
use Rattle.world.proofs.areas.sides_are_ready_everywhere_or_nowhere.Goals as goal

pub returns-clause-everywhere : goal.returns-clause-everywhere
returns-clause-everywhere c = ready_everywhere

pub returns-clause-nowhere : goal.returns-clause-nowhere
returns-clause-nowhere c = ready_nowhere
