-- By what each machine has left.
use Rattle.engine.proofs.splits.Falling.{falls_or_waits, begins_short, stays_within}
use Rattle.engine.proofs.short.splits_are_short.Goals as goal

pub returns-clause-falls : goal.returns-clause-falls
returns-clause-falls c = falls_or_waits c.calls_are_parts.ensures.part.time c.enclosings_are_parts.ensures.part.time c.splits_are_parts.ensures.part.time c.repairs_are_short.ensures.falls

pub returns-clause-begins : goal.returns-clause-begins
returns-clause-begins c = begins_short

pub returns-clause-within : goal.returns-clause-within
returns-clause-within c = stays_within
