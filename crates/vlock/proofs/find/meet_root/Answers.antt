use Rattle.vlock.specs.Ruling.{ground_of}
use Rattle.vlock.proofs.Found.{root_low}
use Rattle.vlock.proofs.find.meet_root.Goals as goal

pub returns-clause-low : goal.returns-clause-low
returns-clause-low c = root_low (ground_of c.args.image.now.key) c.args.seat.now.me.0.view _ c.load.ensures.view.1
