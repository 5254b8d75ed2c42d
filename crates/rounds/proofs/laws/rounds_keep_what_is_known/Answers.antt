use Rattle.rounds.proofs.Keeping.{rounds_keep}
use Rattle.rounds.proofs.laws.rounds_keep_what_is_known.Goals as goal

pub returns : goal.returns
returns c = rounds_keep
