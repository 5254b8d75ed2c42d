use Rattle.std.proofs.Common.{◌≡◌, ◌≤◌}
use Rattle.picture.specs.Counts.{notes_below}
use Rattle.picture.proofs.counts.notes_in.Given as goal

abbrev pub invariant-loop-note_slot : goal.invariant-loop-note_slot
invariant-loop-note_slot l = record { counted : l.count ≡ notes_below l.note_slot l.w1; few : l.count ≤ l.note_slot }
