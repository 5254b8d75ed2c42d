use Rattle.world.proofs.calls.deeds.Calls.{calls_leave, calls_may, know_without}
use Rattle.world.proofs.steps.calls_need_no_areas.Goals as goal

pub returns-clause-leave : goal.returns-clause-leave
returns-clause-leave c = calls_leave

pub returns-clause-may : goal.returns-clause-may
returns-clause-may c = calls_may

pub returns-clause-know : goal.returns-clause-know
returns-clause-know c = know_without
