use Rattle.std.specs.Prelude.{IsTrue}
use Rattle.rounds.proofs.Settling.{rounds_settle}
use Rattle.rounds.proofs.Loose.{loose_is_stored}
use Rattle.rounds.proofs.laws.rounds_settle_views.Goals as goal

pub returns-clause-settles : goal.returns-clause-settles
returns-clause-settles c = rounds_settle

pub returns-clause-loose : goal.returns-clause-loose
returns-clause-loose c test = loose_is_stored (λ word. IsTrue (test word))
