-- Line by line.
use Rattle.core_run.proofs.ends.Lines.{lines_are_well}
use Rattle.core_run.proofs.runs.lines_are_well.Goals as goal

pub returns : goal.returns
returns c t lines is = lines_are_well c.run_begins.ensures c.turns_lead_here.ensures.begins c.runs_stay_well.ensures.line c.runs_stay_well.ensures.lines c.runs_stay_well.ensures.run_out t is lines
