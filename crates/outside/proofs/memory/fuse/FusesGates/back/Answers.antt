-- By the rules that all proofs share.
use Rattle.std.proofs.Common.{rules}
use Rattle.outside.proofs.memory.fuse.FusesGates.back.Goals as goal

pub returns : goal.returns
returns c = search rules
