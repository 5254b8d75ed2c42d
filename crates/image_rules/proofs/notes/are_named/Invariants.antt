use Rattle.std.proofs.Common.{slice_index}
use Rattle.image_rules.specs.Noted.{AreNamed}
use Rattle.image_rules.proofs.notes.are_named.Given as goal

abbrev pub invariant-loop-note_slot : goal.invariant-loop-note_slot
invariant-loop-note_slot l = AreNamed l.geometry (slice_index l.words) l.s l.b l.c l.side l.note_slot
