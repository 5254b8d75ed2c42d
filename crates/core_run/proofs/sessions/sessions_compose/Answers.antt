-- One run after another.
use Rattle.core_run.proofs.Chain.{sessions_compose, maps_carry_on}
use Rattle.core_run.proofs.sessions.sessions_compose.Goals as goal

pub returns-clause-each : goal.returns-clause-each
returns-clause-each c = sessions_compose c.runs_are_sessions.ensures

pub returns-clause-maps : goal.returns-clause-maps
returns-clause-maps c = maps_carry_on
