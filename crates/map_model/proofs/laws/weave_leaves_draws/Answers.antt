use Rattle.map_model.proofs.Histories.{replay-weave}
use Rattle.map_model.proofs.laws.weave_leaves_draws.Goals as goal

pub returns : goal.returns
returns c = replay-weave
