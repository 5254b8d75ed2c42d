-- The numbers go round.
use Rattle.std.proofs.Common.{refl, arith}
use Rattle.hash_word.proofs.previous.Goals as goal

pub returns-clause-of : goal.returns-clause-of
returns-clause-of c = refl

pub returns-clause-range : goal.returns-clause-range
returns-clause-range c = omega arith
