-- Line by line.
use Rattle.core_run.proofs.ends.Lines.{run_is_well}
use Rattle.core_run.proofs.runs.runs_are_well.Goals as goal

pub returns : goal.returns
returns c t lines is = run_is_well c.run_begins.ensures c.turns_lead_here.ensures.begins t is c.runs_stay_well.ensures.lines c.runs_stay_well.ensures.closed c.runs_stay_well.ensures.ends lines
