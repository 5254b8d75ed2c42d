use Rattle.phase.specs.Knows.{IsUnderOne}
use Rattle.phase.proofs.locks.Making.{make_fits, make_knows, make_holds, make_falls}
use Rattle.phase.proofs.locks.Storing.{prepares_record}
use Rattle.phase.proofs.laws.records_are_made.Goals as goal

pub returns-clause-fits : goal.returns-clause-fits
returns-clause-fits c = make_fits

pub returns-clause-knows : goal.returns-clause-knows
returns-clause-knows c locks = make_knows (IsUnderOne locks)

pub returns-clause-falls : goal.returns-clause-falls
returns-clause-falls c = make_falls

pub returns-clause-prepares : goal.returns-clause-prepares
returns-clause-prepares c = prepares_record

pub returns-clause-holds : goal.returns-clause-holds
returns-clause-holds c = make_holds
