-- The bit and the fingerprint of the slot are cleared.
use Rattle.std.proofs.Common.{rules}
use Rattle.stash.proofs.note_slots.free.Goals as goal

pub returns : goal.returns
returns c = search rules
