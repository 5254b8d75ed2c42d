-- Both are lemmas.
use Rattle.bucket_meta.proofs.Marks.{inserted_notes, removed_notes}
use Rattle.bucket_meta.proofs.laws.marks_keep_notes.Goals as goal

pub returns-clause-inserted : goal.returns-clause-inserted
returns-clause-inserted c = inserted_notes

pub returns-clause-removed : goal.returns-clause-removed
returns-clause-removed c = removed_notes
