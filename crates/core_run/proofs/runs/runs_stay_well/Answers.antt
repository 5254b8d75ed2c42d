-- The end rule, line by line, and the close.
use Rattle.core_run.proofs.ends.Closes.{RunLaws, run_out_stays, run_out_shut, line_stays, lines_stay, closed_stays, closed_ends}
use Rattle.core_run.proofs.runs.runs_stay_well.Goals as goal

run_laws : goal.After-calls_run_out → RunLaws
run_laws c = record {
  keepers = c.keepers_have_laws.ensures;
  may_close = c.close_may_begin.ensures;
  close_low = c.close_ends.ensures.most;
  rounds_end = c.calls_run_out.ensures.rounds;
  few_rounds = c.calls_run_out.ensures.few;
}

pub returns-clause-run_out : goal.returns-clause-run_out
returns-clause-run_out c t most s is enough r = run_out_stays (run_laws c) t is most enough s r

pub returns-clause-line : goal.returns-clause-line
returns-clause-line c t most l s is enough r = line_stays (run_laws c) t is most enough l s r

pub returns-clause-lines : goal.returns-clause-lines
returns-clause-lines c t most lines s is enough r = lines_stay (run_laws c) t is most enough lines s r

pub returns-clause-closed : goal.returns-clause-closed
returns-clause-closed c t most s is enough r = closed_stays (run_laws c) t is most enough s r

pub returns-clause-shut : goal.returns-clause-shut
returns-clause-shut c t most s is enough r = run_out_shut (run_laws c) t is most enough s r

pub returns-clause-ends : goal.returns-clause-ends
returns-clause-ends c t most s is enough r = closed_ends (run_laws c) t is most enough s r
