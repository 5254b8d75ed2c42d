-- By the clauses of the restart, the close, and what is done in a run.
use Rattle.core_run.proofs.runs.keepers_have_laws.Goals as goal

pub returns : goal.returns
returns c = record {
  wells = c.deeds_are_well.ensures;
  comes = c.turns_lead_here.ensures.comes;
  most = c.restart_ends.ensures.most;
  restart = c.restart_ends.ensures.falls;
  asks = c.restart_ends.ensures.asks;
  close = c.close_ends.ensures.falls;
}
