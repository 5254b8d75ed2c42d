-- Each clause is a lemma.
use Rattle.read_op.proofs.steps.Asked.{reads_alone}
use Rattle.read_op.proofs.Sounding.{answers_by_same, busy_is_anothers, never_busy, never_stale}
use Rattle.read_op.proofs.causing.Anywhere.{ends_by_cause_anywhere}
use Rattle.read_op.proofs.causing.Loading.{keeps_loads}
use Rattle.read_op.proofs.laws.ends_have_causes.Goals as goal

pub returns-clause-reads : goal.returns-clause-reads
returns-clause-reads c = reads_alone

pub returns-clause-answers : goal.returns-clause-answers
returns-clause-answers c = answers_by_same

pub returns-clause-causes : goal.returns-clause-causes
returns-clause-causes c = ends_by_cause_anywhere

pub returns-clause-loads : goal.returns-clause-loads
returns-clause-loads c = keeps_loads

pub returns-clause-others : goal.returns-clause-others
returns-clause-others c = busy_is_anothers

pub returns-clause-alone : goal.returns-clause-alone
returns-clause-alone c = never_busy

pub returns-clause-current : goal.returns-clause-current
returns-clause-current c = never_stale
