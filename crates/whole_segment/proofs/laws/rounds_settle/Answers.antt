-- The first round has touched no line.
use Rattle.whole_segment.proofs.Settling.{settles}
use Rattle.whole_segment.proofs.Ascending.{ascends}
use Rattle.whole_segment.proofs.laws.rounds_settle.Goals as goal

pub returns-clause-settles : goal.returns-clause-settles
returns-clause-settles c = settles

pub returns-clause-ascending : goal.returns-clause-ascending
returns-clause-ascending c = ascends
