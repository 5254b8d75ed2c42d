use Rattle.phase.specs.Knows.{IsUnderOne}
use Rattle.phase.proofs.locks.Holding.{holders_load}
use Rattle.phase.proofs.locks.Knowing.{knows_more}
use Rattle.phase.proofs.laws.holders_know.Goals as goal

pub returns-clause-loads : goal.returns-clause-loads
returns-clause-loads c = holders_load

pub returns-clause-stores : goal.returns-clause-stores
returns-clause-stores c locks = knows_more (IsUnderOne locks)
