-- The clause is a lemma.
use Rattle.bucket_words.proofs.segments.Deciding.{find_places}
use Rattle.bucket_words.proofs.records.places_of_a_key_decide.Goals as goal

pub returns : goal.returns
returns c shape word other s k table other_table own other_own home probing stash =
    find_places shape word other table other_table s k own other_own home probing stash
