use Rattle.std.specs.Prelude.{IsTrue}
use Rattle.rounds.proofs.Events.{event_cases, events_end}
use Rattle.rounds.proofs.Lines.{lines_are_stored}
use Rattle.rounds.proofs.laws.events_are_three.Goals as goal

pub returns-clause-events : goal.returns-clause-events
returns-clause-events c = record { cases = event_cases; ends = events_end }

pub returns-clause-lines : goal.returns-clause-lines
returns-clause-lines c test = lines_are_stored (λ line. IsTrue (test line))
