-- By the rules that all proofs share.
use Rattle.std.proofs.Common.{rules}
use Rattle.split_op.proofs.taking.searched.Goals as goal

pub returns-then-slot-last_slot : goal.returns-then-slot-last_slot
returns-then-slot-last_slot c = search rules

pub returns-else-slot-last_slot : goal.returns-else-slot-last_slot
returns-else-slot-last_slot c = search rules
