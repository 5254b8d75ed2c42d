-- Each clause is a lemma.
use Rattle.phase.proofs.Backing.{back_fits, back_ends, back_never, back_falls}
use Rattle.phase.proofs.asking.Asking.{back_within}
use Rattle.phase.proofs.laws.ways_go_again.Goals as goal

pub returns-clause-fits : goal.returns-clause-fits
returns-clause-fits c = back_fits

pub returns-clause-leads : goal.returns-clause-leads
returns-clause-leads c = back_ends

pub returns-clause-away : goal.returns-clause-away
returns-clause-away c = back_never

pub returns-clause-falls : goal.returns-clause-falls
returns-clause-falls c = back_falls

pub returns-clause-within : goal.returns-clause-within
returns-clause-within c = back_within
