-- By the rules that all proofs share.
use Rattle.std.proofs.Common.{rules}
use Rattle.outside.proofs.memory.store.front_of.Goals as goal

pub returns-else-bytes-limit : goal.returns-else-bytes-limit
returns-else-bytes-limit c = search rules
