-- Two fingerprints stand in word 3.
use Rattle.std.proofs.Common.{rules}
use Rattle.bucket_meta.proofs.words.note_finger_of.Goals as goal

pub returns-then-note_slot-lt-LOWER_NOTES : goal.returns-then-note_slot-lt-LOWER_NOTES
returns-then-note_slot-lt-LOWER_NOTES c = search rules
