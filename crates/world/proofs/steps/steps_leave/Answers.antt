use Rattle.world.proofs.calls.mildly.Leaving.{power_stays, spent_locks_stay, pairs_stay, later_view}
use Rattle.world.proofs.steps.steps_leave.Goals as goal

pub returns-clause-power : goal.returns-clause-power
returns-clause-power c = power_stays

pub returns-clause-spent : goal.returns-clause-spent
returns-clause-spent c = spent_locks_stay

pub returns-clause-pairs : goal.returns-clause-pairs
returns-clause-pairs c = pairs_stay

pub returns-clause-later : goal.returns-clause-later
returns-clause-later c = later_view
