-- By the rules that all proofs share, and by arithmetic.
use Rattle.std.proofs.Common.{arith, rules}
use Rattle.outside.proofs.parts.count_one.Goals as goal

pub returns-clause-counted : goal.returns-clause-counted
returns-clause-counted c = search rules

pub returns-clause-later : goal.returns-clause-later
returns-clause-later c = omega arith

pub returns-clause-rose : goal.returns-clause-rose
returns-clause-rose c = omega arith
