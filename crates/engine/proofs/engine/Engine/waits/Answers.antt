-- By the rules that all proofs share.
use Rattle.std.proofs.Common.{rules}
use Rattle.engine.proofs.engine.Engine.waits.Goals as goal

pub returns-in-Repair : goal.returns-in-Repair
returns-in-Repair c = search rules

pub returns-in-Repair-2 : goal.returns-in-Repair-2
returns-in-Repair-2 c = search rules

pub returns-in-Repair-3 : goal.returns-in-Repair-3
returns-in-Repair-3 c = search rules
