use Rattle.phase.proofs.locks.Taking.{take_fits, take_stands, take_falls, take_remembers, take_caused}
use Rattle.phase.proofs.laws.locks_are_taken.Goals as goal

pub returns-clause-fits : goal.returns-clause-fits
returns-clause-fits c = take_fits

pub returns-clause-stands : goal.returns-clause-stands
returns-clause-stands c = take_stands

pub returns-clause-falls : goal.returns-clause-falls
returns-clause-falls c = take_falls

pub returns-clause-remembers : goal.returns-clause-remembers
returns-clause-remembers c = take_remembers

pub returns-clause-causes : goal.returns-clause-causes
returns-clause-causes c = take_caused
