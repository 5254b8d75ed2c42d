use Rattle.world.proofs.calls.seating.Moving.{cuts_keep, joins_keep}
use Rattle.world.proofs.steps.seats_keep.Goals as goal

pub returns-clause-cuts : goal.returns-clause-cuts
returns-clause-cuts c = cuts_keep

pub returns-clause-joins : goal.returns-clause-joins
returns-clause-joins c = joins_keep
