-- Each clause is a lemma.
use Rattle.bucket_words.proofs.segments.Noted.{notes_same, exact_same, notes_kept, count_kept}
use Rattle.bucket_words.proofs.notes.notes_stay.Goals as goal

pub returns-clause-words : goal.returns-clause-words
returns-clause-words c = notes_same

pub returns-clause-metadata : goal.returns-clause-metadata
returns-clause-metadata c shape word s b x bucket same q d near = (notes_kept shape word s b x bucket same q d near, count_kept shape word s b x bucket same q d near)

pub returns-clause-exact : goal.returns-clause-exact
returns-clause-exact c = exact_same
