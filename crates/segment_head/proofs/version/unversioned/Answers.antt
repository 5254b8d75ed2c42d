-- The lowest byte is taken out.
use Rattle.std.proofs.Common.{rules}
use Rattle.segment_head.proofs.version.unversioned.Goals as goal

pub returns : goal.returns
returns c = search rules
