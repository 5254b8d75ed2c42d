-- Each event of the restart leaves fewer.
use Rattle.core_run.proofs.ends.Keeping.{restart_ends, restart_opens}
use Rattle.core_run.proofs.runs.restarts_end.Goals as goal

pub returns-clause-restart : goal.returns-clause-restart
returns-clause-restart c t most s is enough r op = restart_ends c.keepers_have_laws.ensures t is most s enough r op

pub returns-clause-opens : goal.returns-clause-opens
returns-clause-opens c t most s op is enough r here = restart_opens c.keepers_have_laws.ensures t is most s op enough r here
