-- Where the power was off before, no event is taken, and the headway stays.
use Rattle.shared_call.proofs.Headways.{headway_of_none}
use Rattle.shared_image.proofs.calls.next_try.Goals as goal

pub returns-then-off-clause-headway : goal.returns-then-off-clause-headway
returns-then-off-clause-headway g c = headway_of_none c.args.pass.now.me.0 c.args.headway.now
