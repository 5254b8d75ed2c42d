-- By the rules that all proofs share.
use Rattle.std.proofs.Common.{rules}
use Rattle.keeping.proofs.keeper.count.Goals as goal

pub returns-in_default : goal.returns-in_default
returns-in_default g c = search rules
