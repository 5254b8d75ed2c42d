-- Each clause is a lemma.
use Rattle.phase.proofs.asking.Causing.{walk_remembers, walk_caused, back_caused}
use Rattle.phase.proofs.laws.ends_have_causes.Goals as goal

pub returns-clause-remembers : goal.returns-clause-remembers
returns-clause-remembers c = walk_remembers

pub returns-clause-walk : goal.returns-clause-walk
returns-clause-walk c = walk_caused

pub returns-clause-back : goal.returns-clause-back
returns-clause-back c = back_caused
