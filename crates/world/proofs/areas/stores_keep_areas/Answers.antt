use Rattle.world.proofs.fitting.Rows.{rows_keep}
use Rattle.world.proofs.fitting.Spared.{other_stores}
use Rattle.world.proofs.areas.stores_keep_areas.Goals as goal

pub returns-clause-rows : goal.returns-clause-rows
returns-clause-rows c = rows_keep

pub returns-clause-others : goal.returns-clause-others
returns-clause-others c = other_stores
