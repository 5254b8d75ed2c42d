-- Where the power was off before, no event is taken, and there is no headway.
use Rattle.std.proofs.Common.{[], refl}
use Rattle.shared_call.specs.Headway.{no_headway}
use Rattle.shared_call.proofs.Headways.{headway_of}
use Rattle.shared_image.proofs.calls.first_try.Goals as goal

pub returns-then-off-clause-headway : goal.returns-then-off-clause-headway
returns-then-off-clause-headway g c = headway_of c.args.pass.now.me.0 c.args.pass.now.me.0 no_headway c.none.result [] refl c.none.ensures
