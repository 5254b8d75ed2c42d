use Rattle.world.proofs.stepping.Readers.{may_answer}
use Rattle.world.proofs.laws.readers_may.Goals as goal

pub returns : goal.returns
returns c site v = may_answer site v
