use Rattle.rounds.proofs.Waiting.{rounds_wait}
use Rattle.rounds.proofs.laws.lines_wait_for_a_fence.Goals as goal

pub returns : goal.returns
returns c = rounds_wait
