-- By the want of the event.
use Rattle.part.proofs.Leading.{alone_nothing_leads_away}
use Rattle.part.proofs.Still.{nothing_still, own_events_keep_still, alone_nothing_moves}
use Rattle.part.proofs.laws.own_events_move_nothing.Goals as goal

pub returns-clause-begins : goal.returns-clause-begins
returns-clause-begins c = nothing_still

pub returns-clause-own : goal.returns-clause-own
returns-clause-own c = own_events_keep_still

pub returns-clause-alone : goal.returns-clause-alone
returns-clause-alone c = alone_nothing_moves

pub returns-clause-leads : goal.returns-clause-leads
returns-clause-leads c = alone_nothing_leads_away
