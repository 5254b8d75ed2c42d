-- By the rules that all proofs share.
use Rattle.std.proofs.Common.{rules}
use Rattle.way.proofs.is_covering.Goals as goal

pub returns-then-depth-le-HASH_BITS : goal.returns-then-depth-le-HASH_BITS
returns-then-depth-le-HASH_BITS c = search rules
