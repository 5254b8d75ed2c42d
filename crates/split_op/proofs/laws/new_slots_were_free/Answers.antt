-- By the store of the new header.
use Rattle.split_op.proofs.sides.NewSlots.{takes_free_slot, new_slot_stays}
use Rattle.split_op.proofs.laws.new_slots_were_free.Goals as goal

pub returns-clause-takes : goal.returns-clause-takes
returns-clause-takes c = takes_free_slot

pub returns-clause-stays : goal.returns-clause-stays
returns-clause-stays c = new_slot_stays
