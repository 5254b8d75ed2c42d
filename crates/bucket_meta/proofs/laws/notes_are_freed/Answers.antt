-- It is a lemma.
use Rattle.bucket_meta.proofs.notes.Freed.{frees_place}
use Rattle.bucket_meta.proofs.laws.notes_are_freed.Goals as goal

pub returns : goal.returns
returns c = frees_place
