-- Each kind is hashed as the spec says.
use Rattle.std.proofs.Common.{rules}
use Rattle.hash_word.proofs.hash.Goals as goal

pub returns-in-Identity : goal.returns-in-Identity
returns-in-Identity c = search rules

pub returns-in-Mix : goal.returns-in-Mix
returns-in-Mix c = search rules
