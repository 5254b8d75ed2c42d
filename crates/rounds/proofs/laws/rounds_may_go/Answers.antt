use Rattle.rounds.proofs.Keeping.{rounds_may}
use Rattle.rounds.proofs.Falling.{rounds_fall}
use Rattle.rounds.proofs.laws.rounds_may_go.Goals as goal

pub returns-clause-may : goal.returns-clause-may
returns-clause-may c = rounds_may

pub returns-clause-falls : goal.returns-clause-falls
returns-clause-falls c = rounds_fall
