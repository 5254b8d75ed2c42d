-- Each clause is a lemma.
use Rattle.phase.proofs.Leading.{headers_lead, pinned_lead, noted_lead}
use Rattle.phase.proofs.laws.headers_lead.Goals as goal

pub returns-clause-owners : goal.returns-clause-owners
returns-clause-owners c = headers_lead

pub returns-clause-pinned : goal.returns-clause-pinned
returns-clause-pinned c = pinned_lead

pub returns-clause-noted : goal.returns-clause-noted
returns-clause-noted c = noted_lead
