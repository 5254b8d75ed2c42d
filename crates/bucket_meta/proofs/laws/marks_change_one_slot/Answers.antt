-- Each of the words, bit by bit.
use Rattle.bucket_meta.proofs.Marks.{takes_slot, takes_slot_as_member, frees_slot}
use Rattle.bucket_meta.proofs.laws.marks_change_one_slot.Goals as goal

pub returns-clause-inserted : goal.returns-clause-inserted
returns-clause-inserted c = takes_slot

pub returns-clause-member : goal.returns-clause-member
returns-clause-member c = takes_slot_as_member

pub returns-clause-removed : goal.returns-clause-removed
returns-clause-removed c = frees_slot
