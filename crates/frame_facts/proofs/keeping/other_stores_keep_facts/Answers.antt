-- No fact looks at the word.
use Rattle.frame_facts.proofs.Stores.{untouched, deeper_area, in_bucket}
use Rattle.frame_facts.proofs.keeping.other_stores_keep_facts.Goals as goal

pub returns-clause-apart : goal.returns-clause-apart
returns-clause-apart c = untouched

pub returns-clause-areas : goal.returns-clause-areas
returns-clause-areas c = deeper_area

pub returns-clause-buckets : goal.returns-clause-buckets
returns-clause-buckets c = in_bucket
