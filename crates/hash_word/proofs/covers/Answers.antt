-- The top bits are compared with the pattern.
use Rattle.std.proofs.Common.{rules}
use Rattle.hash_word.proofs.covers.Goals as goal

pub returns : goal.returns
returns c = search rules
