-- The fields of the note are what the words say.
use Rattle.image_rules.proofs.notes.note_on.Goals as goal

pub returns-clause-finger : goal.returns-clause-finger
returns-clause-finger c = c.note_finger_of.ensures

pub returns-clause-index : goal.returns-clause-index
returns-clause-index c = c.note_index_of.ensures.is
