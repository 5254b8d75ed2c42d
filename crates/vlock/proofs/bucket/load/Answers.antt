use Rattle.vlock.proofs.Noting.{told}
use Rattle.vlock.proofs.bucket.load.Goals as goal

pub returns-clause-view : goal.returns-clause-view
returns-clause-view g c = told _ _ _ c.args.seat.now.me.0 _ _ _ c.requires.acting.1 c.in-Value.ensures.view
