use Rattle.world.proofs.fitting.lasting.Owning.{rows_go_on, rows_keep_owners}
use Rattle.world.proofs.fitting.lasting.Lasting.{rows_last}
use Rattle.world.proofs.areas.rows_keep_owners.Goals as goal

pub returns-clause-frames : goal.returns-clause-frames
returns-clause-frames c = rows_go_on

pub returns-clause-owners : goal.returns-clause-owners
returns-clause-owners c = rows_keep_owners

pub returns-clause-lasting : goal.returns-clause-lasting
returns-clause-lasting c = rows_last
