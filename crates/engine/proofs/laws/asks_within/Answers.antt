-- By the law of a part.
use Rattle.engine.proofs.machines.Engines.{asks_within}
use Rattle.engine.proofs.laws.asks_within.Goals as goal

pub returns : goal.returns
returns c = asks_within c.calls_are_parts.ensures.part
