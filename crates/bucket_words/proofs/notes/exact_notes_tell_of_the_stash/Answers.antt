-- The clause is a lemma.
use Rattle.bucket_words.proofs.segments.Stashed.{not_there}
use Rattle.bucket_words.proofs.notes.exact_notes_tell_of_the_stash.Goals as goal

pub returns : goal.returns
returns c shape word s d k small exact unnoted t hit = not_there shape word s d t k small exact unnoted hit
