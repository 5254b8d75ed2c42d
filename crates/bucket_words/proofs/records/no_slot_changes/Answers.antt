-- The clause is a lemma.
use Rattle.bucket_words.proofs.segments.changes.NoSlot.{keeps}
use Rattle.bucket_words.proofs.records.no_slot_changes.Goals as goal

pub returns : goal.returns
returns c = keeps
