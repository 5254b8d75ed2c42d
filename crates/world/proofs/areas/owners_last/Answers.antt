use Rattle.world.proofs.fitting.lasting.Owning.{owners_last, locked_owners}
use Rattle.world.proofs.areas.owners_last.Goals as goal

pub returns-clause-living : goal.returns-clause-living
returns-clause-living c = owners_last

pub returns-clause-locked : goal.returns-clause-locked
returns-clause-locked c = locked_owners
