-- By the rules that all proofs share.
use Rattle.std.proofs.Common.{rules}
use Rattle.outside.proofs.memory.fuse.FuseGate.pass.Goals as goal

pub returns-in-Some-eq0-clause-cuts : goal.returns-in-Some-eq0-clause-cuts
returns-in-Some-eq0-clause-cuts c = search rules

pub returns-in-Some-eq0-clause-left : goal.returns-in-Some-eq0-clause-left
returns-in-Some-eq0-clause-left c = search rules
