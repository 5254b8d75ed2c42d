use Rattle.std.proofs.Common.{ℕ, ◌<◌}
use Rattle.stash.specs.NoteSlots.{IsNoteAt}
use Rattle.stash.proofs.note_slots.note_slot_of.Given as goal

abbrev pub invariant-loop-note_slot : goal.invariant-loop-note_slot
invariant-loop-note_slot l = (i : ℕ) → i < l.note_slot → ¬ IsNoteAt l.meta l.member (l.finger, l.index) i
