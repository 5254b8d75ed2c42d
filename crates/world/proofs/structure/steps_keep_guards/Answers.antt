use Rattle.world.proofs.moving.keeping.Keepers.{keep_guards, keep_sayers, keep_pins}
use Rattle.world.proofs.moving.keeping.HeldGuards.{keep_held_guards}
use Rattle.world.proofs.structure.steps_keep_guards.Goals as goal

pub returns-clause-guards : goal.returns-clause-guards
returns-clause-guards c = keep_guards

pub returns-clause-held : goal.returns-clause-held
returns-clause-held c = keep_held_guards

pub returns-clause-sayers : goal.returns-clause-sayers
returns-clause-sayers c = keep_sayers

pub returns-clause-pins : goal.returns-clause-pins
returns-clause-pins c = keep_pins
