-- By the rules that all proofs share.
use Rattle.std.proofs.Common.{rules}
use Rattle.release_op.proofs.op.step_after.Goals as goal

pub returns-in-Passed : goal.returns-in-Passed
returns-in-Passed c = search rules
