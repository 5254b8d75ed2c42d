-- Each clause is a lemma.
use Rattle.phase.proofs.Walking.{walk_fits, walk_stands, walk_noted, walk_never_stale, walk_falls}
use Rattle.phase.proofs.asking.Asking.{walk_within}
use Rattle.phase.proofs.laws.ways_go.Goals as goal

pub returns-clause-fits : goal.returns-clause-fits
returns-clause-fits c = walk_fits

pub returns-clause-stands : goal.returns-clause-stands
returns-clause-stands c = walk_stands

pub returns-clause-notes : goal.returns-clause-notes
returns-clause-notes c = walk_noted

pub returns-clause-current : goal.returns-clause-current
returns-clause-current c = walk_never_stale

pub returns-clause-falls : goal.returns-clause-falls
returns-clause-falls c = walk_falls

pub returns-clause-within : goal.returns-clause-within
returns-clause-within c = walk_within
