-- By the rules that all proofs share.
use Rattle.std.proofs.Common.{rules}
use Rattle.pm_trace.proofs.flushes.add.Goals as goal

pub returns-clause-items : goal.returns-clause-items
returns-clause-items c = search rules
