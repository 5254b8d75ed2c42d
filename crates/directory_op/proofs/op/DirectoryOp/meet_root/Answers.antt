-- By the rules that all proofs share.
use Rattle.std.proofs.Common.{rules}
use Rattle.directory_op.proofs.op.DirectoryOp.meet_root.Goals as goal

pub returns-else-root-depth : goal.returns-else-root-depth
returns-else-root-depth c = search rules

pub returns-then-root-depth : goal.returns-then-root-depth
returns-then-root-depth c = search rules

pub returns-else-root-depth-2 : goal.returns-else-root-depth-2
returns-else-root-depth-2 c = search rules
