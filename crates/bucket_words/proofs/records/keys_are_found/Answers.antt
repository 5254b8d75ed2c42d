-- Each clause is a lemma.
use Rattle.bucket_words.proofs.segments.Places.{owner_within}
use Rattle.bucket_words.proofs.segments.Finding.{find_is, find_none, hit_found, none_found, find_empty}
use Rattle.bucket_words.proofs.records.keys_are_found.Goals as goal

pub returns-clause-stands : goal.returns-clause-stands
returns-clause-stands c shape word s b r k table hit own = find_is shape word table s b r k hit own

pub returns-clause-found : goal.returns-clause-found
returns-clause-found c shape word s k v own found = hit_found shape word s k v own found

pub returns-clause-absent : goal.returns-clause-absent
returns-clause-absent c shape word s k own = (find_none shape word s k (owner_within shape word _ s own) own, none_found shape word s k own)

pub returns-clause-unowned : goal.returns-clause-unowned
returns-clause-unowned c shape word k own = find_empty shape word k own
