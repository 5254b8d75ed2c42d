-- The shifted 1 is the power, which is from 1 to 2 ^ 17.
use Rattle.std.proofs.Common.{arith}
use Rattle.std.proofs.lemmas.Nat.{one_shl, pow_pos}
use Rattle.image_layout.proofs.Areas.{power_le}
use Rattle.image_layout.proofs.shape.entries_of.Goals as goal

pub returns-clause-is : goal.returns-clause-is
returns-clause-is c = one_shl c.args.depth 64 (omega arith)

pub returns-clause-some : goal.returns-clause-some
returns-clause-some c = omega (arith, one_shl c.args.depth 64 (omega arith), pow_pos c.args.depth)

pub returns-clause-most : goal.returns-clause-most
returns-clause-most c = omega (arith, one_shl c.args.depth 64 (omega arith), power_le c.args.depth 17 c.requires)
