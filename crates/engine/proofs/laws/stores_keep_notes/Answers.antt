-- By the law of a part, and what the kind of each event asks.
use Rattle.engine.proofs.machines.Notes.{keeps_notes}
use Rattle.engine.proofs.laws.stores_keep_notes.Goals as goal

pub returns : goal.returns
returns c = keeps_notes c.calls_are_parts.ensures.part
