use Rattle.world.proofs.fitting.Learning.{roots_tell, entries_tell, headers_tell}
use Rattle.world.proofs.areas.loads_tell.Goals as goal

pub returns-clause-root : goal.returns-clause-root
returns-clause-root c = roots_tell

pub returns-clause-entry : goal.returns-clause-entry
returns-clause-entry c = entries_tell

pub returns-clause-header : goal.returns-clause-header
returns-clause-header c = headers_tell
