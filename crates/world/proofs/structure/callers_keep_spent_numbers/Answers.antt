use Rattle.world.proofs.moving.SpentNumbers.{callers_keep_spending}
use Rattle.world.proofs.structure.callers_keep_spent_numbers.Goals as goal

pub returns : goal.returns
returns c = callers_keep_spending
