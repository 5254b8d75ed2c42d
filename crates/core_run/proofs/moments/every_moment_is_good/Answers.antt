-- By the acts of a run.
use Rattle.core_run.proofs.Acts.{acts_are_single, moments_of_runs, every_moment_is_good}
use Rattle.core_run.proofs.moments.every_moment_is_good.Goals as goal

pub returns-clause-single : goal.returns-clause-single
returns-clause-single c = acts_are_single

pub returns-clause-acts : goal.returns-clause-acts
returns-clause-acts c = moments_of_runs c.run_begins.ensures c.deeds_are_well.ensures c.close_may_begin.ensures c.moments_are_good.ensures

pub returns-clause-runs : goal.returns-clause-runs
returns-clause-runs c = every_moment_is_good c.run_begins.ensures c.deeds_are_well.ensures c.close_may_begin.ensures c.moments_are_good.ensures
    c.turns_lead_here.ensures.begins c.drives_stay.ensures.restarted c.runs_stay_well.ensures.line c.runs_stay_well.ensures.lines
    c.calls_run_out.ensures.rounds c.calls_run_out.ensures.few
