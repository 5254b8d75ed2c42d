use Rattle.rounds.proofs.Running.{rounds_run}
use Rattle.rounds.proofs.laws.rounds_are_made.Goals as goal

pub returns : goal.returns
returns c = rounds_run
