-- By the law of a part.
use Rattle.engine.proofs.machines.Engines.{asks_words}
use Rattle.engine.proofs.laws.stores_are_words.Goals as goal

pub returns : goal.returns
returns c = asks_words c.calls_are_parts.ensures.part
