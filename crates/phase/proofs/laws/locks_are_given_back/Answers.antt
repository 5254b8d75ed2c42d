use Rattle.phase.proofs.locks.Giving.{places_stand, held_stands, give_stands, give_falls}
use Rattle.phase.proofs.laws.locks_are_given_back.Goals as goal

pub returns-clause-places : goal.returns-clause-places
returns-clause-places c = places_stand

pub returns-clause-held : goal.returns-clause-held
returns-clause-held c = held_stands

pub returns-clause-stands : goal.returns-clause-stands
returns-clause-stands c = give_stands

pub returns-clause-falls : goal.returns-clause-falls
returns-clause-falls c = give_falls
