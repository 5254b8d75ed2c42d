-- A note slot with the note makes it one of its side's.
use Rattle.stash.proofs.Visits.{has_by_note_slot}
use Rattle.stash.proofs.notes.has_note.Goals as goal

pub returns : goal.returns
returns c = has_by_note_slot c.note_slot_of.result c.is_some.result c.args.meta.now c.args.member (c.args.finger, c.args.index) c.is_some.ensures c.note_slot_of.ensures
