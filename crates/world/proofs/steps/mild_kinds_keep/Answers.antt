use Rattle.world.proofs.calls.mildly.Mildly.{mild_kinds}
use Rattle.world.proofs.steps.mild_kinds_keep.Goals as goal

pub returns : goal.returns
returns c = mild_kinds
