-- By the rules that all proofs share.
use Rattle.std.proofs.Common.{rules}
use Rattle.stash_op.proofs.search.noted.Goals as goal

pub returns : goal.returns
returns c = search rules
