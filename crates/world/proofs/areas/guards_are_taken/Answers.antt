use Rattle.world.proofs.fitting.Guarding.{free_guards, taken_guards, given_guards, other_guards}
use Rattle.world.proofs.areas.guards_are_taken.Goals as goal

pub returns-clause-free : goal.returns-clause-free
returns-clause-free c = free_guards

pub returns-clause-takes : goal.returns-clause-takes
returns-clause-takes c = taken_guards

pub returns-clause-gives : goal.returns-clause-gives
returns-clause-gives c = given_guards

pub returns-clause-others : goal.returns-clause-others
returns-clause-others c = other_guards
