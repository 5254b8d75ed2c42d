use Rattle.world.proofs.stepping.Slots.{used_stays, freed_by_repairs, free_slots_stay_taken}
use Rattle.world.proofs.stepping.Taken.{free_slots_stay_taken_in_media}
use Rattle.world.proofs.steps.used_slots_stay.Goals as goal

pub returns-clause-used : goal.returns-clause-used
returns-clause-used c = used_stays

pub returns-clause-freed : goal.returns-clause-freed
returns-clause-freed c = freed_by_repairs

pub returns-clause-taken : goal.returns-clause-taken
returns-clause-taken c = free_slots_stay_taken

pub returns-clause-media : goal.returns-clause-media
returns-clause-media c = free_slots_stay_taken_in_media
