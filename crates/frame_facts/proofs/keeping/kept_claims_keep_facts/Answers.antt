-- What each fact looks at is carried.
use Rattle.frame_facts.proofs.Stores.{spares}
use Rattle.frame_facts.proofs.keeping.kept_claims_keep_facts.Goals as goal

pub returns : goal.returns
returns c = spares
