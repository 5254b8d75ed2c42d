-- A slot in use is told by its side, its index and its fingerprint.
use Rattle.std.proofs.Common.{rules}
use Rattle.stash.proofs.note_slots.is_note_at.Goals as goal

pub returns-then-bit_at-index : goal.returns-then-bit_at-index
returns-then-bit_at-index c = search rules
