-- By the rules that all proofs share.
use Rattle.std.proofs.Common.{rules}
use Rattle.enclose_op.proofs.enclosed.Enclosed.is_followed.Goals as goal

pub returns-then-version_of-self : goal.returns-then-version_of-self
returns-then-version_of-self c = search rules

pub returns-else-version_of-self : goal.returns-else-version_of-self
returns-else-version_of-self c = search rules
