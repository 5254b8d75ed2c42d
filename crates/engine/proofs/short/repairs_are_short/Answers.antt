-- By what each machine has left.
use Rattle.engine.proofs.splits.Falling.{repairs_fall, repair_begins_short, repair_stays_within}
use Rattle.engine.proofs.short.repairs_are_short.Goals as goal

pub returns-clause-falls : goal.returns-clause-falls
returns-clause-falls c = repairs_fall c.redirects_are_parts.ensures.few c.mends_are_parts.ensures.part.time c.calls_are_parts.ensures.part.time c.repairs_are_parts.ensures.part.time

pub returns-clause-begins : goal.returns-clause-begins
returns-clause-begins c = repair_begins_short

pub returns-clause-within : goal.returns-clause-within
returns-clause-within c = repair_stays_within
