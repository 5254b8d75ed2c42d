-- Each clause is a lemma.
use Rattle.phase.proofs.Loading.{load_stands, load_falls}
use Rattle.phase.proofs.laws.bucket_loads.Goals as goal

pub returns-clause-stands : goal.returns-clause-stands
returns-clause-stands c = load_stands

pub returns-clause-falls : goal.returns-clause-falls
returns-clause-falls c = load_falls
