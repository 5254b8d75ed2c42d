-- A record of the one stands in the same place of the other.
use Rattle.frame_facts.proofs.Copies.{slot_copies}
use Rattle.frame_facts.proofs.tables.slot_copies_are_copies.Goals as goal

pub returns : goal.returns
returns c = slot_copies
