use Rattle.world.proofs.stepping.Slots.{slots_stay_taken, stays_current, new_slots_were_free}
use Rattle.world.proofs.stepping.Taken.{taken_stays, fulls_are_taken}
use Rattle.world.proofs.steps.slots_stay.Goals as goal

pub returns-clause-taken : goal.returns-clause-taken
returns-clause-taken c = slots_stay_taken

pub returns-clause-media : goal.returns-clause-media
returns-clause-media c = taken_stays

pub returns-clause-full : goal.returns-clause-full
returns-clause-full c = fulls_are_taken

pub returns-clause-current : goal.returns-clause-current
returns-clause-current c = stays_current

pub returns-clause-new : goal.returns-clause-new
returns-clause-new c = new_slots_were_free
