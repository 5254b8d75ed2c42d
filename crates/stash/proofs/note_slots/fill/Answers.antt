-- Each field of the slot is written.
use Rattle.std.proofs.Common.{rules}
use Rattle.stash.proofs.note_slots.fill.Goals as goal

pub returns : goal.returns
returns c = search rules
