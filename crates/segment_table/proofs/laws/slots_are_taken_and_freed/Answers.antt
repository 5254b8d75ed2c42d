-- The slot is not live before and after.
use Rattle.segment_table.proofs.StoreLaws.{takes_slot, frees_slot}
use Rattle.segment_table.proofs.laws.slots_are_taken_and_freed.Goals as goal

pub returns-clause-takes : goal.returns-clause-takes
returns-clause-takes c = takes_slot

pub returns-clause-frees : goal.returns-clause-frees
returns-clause-frees c = frees_slot
