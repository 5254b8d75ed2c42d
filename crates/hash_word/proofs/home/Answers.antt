-- Six bits above the lowest byte are the number.
use Rattle.std.proofs.Common.{◌/◌, ◌^◌, arith}
use Rattle.std.proofs.lemmas.Nat.{and_mask}
use Rattle.hash_word.proofs.home.Goals as goal

pub returns-clause-of : goal.returns-clause-of
returns-clause-of c = and_mask (c.args.h / 2 ^ 8) 6

pub returns-clause-range : goal.returns-clause-range
returns-clause-range c = omega (arith, and_mask (c.args.h / 2 ^ 8) 6)
