-- By the rules that all proofs share.
use Rattle.std.proofs.Common.{rules}
use Rattle.stash_op.proofs.taking.locked_to.Goals as goal

pub returns-in-Held : goal.returns-in-Held
returns-in-Held c = search rules
