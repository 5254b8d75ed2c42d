-- By the step.
use Rattle.write_op.proofs.causing.Anywhere.{keeps_loads}
use Rattle.write_op.proofs.causing.Others.{again_by_others}
use Rattle.write_op.proofs.causing.Inside.{asks_inside}
use Rattle.write_op.proofs.causing.Kinds.{events_have_kinds, tries_free}
use Rattle.write_op.proofs.causing.Telling.{never_busy, never_stale}
use Rattle.write_op.proofs.laws.ends_have_causes.Goals as goal

pub returns-clause-kinds : goal.returns-clause-kinds
returns-clause-kinds c = events_have_kinds

pub returns-clause-loads : goal.returns-clause-loads
returns-clause-loads c = keeps_loads

pub returns-clause-tries : goal.returns-clause-tries
returns-clause-tries c = tries_free

pub returns-clause-inside : goal.returns-clause-inside
returns-clause-inside c = asks_inside

pub returns-clause-others : goal.returns-clause-others
returns-clause-others c = again_by_others

pub returns-clause-alone : goal.returns-clause-alone
returns-clause-alone c = never_busy

pub returns-clause-current : goal.returns-clause-current
returns-clause-current c = never_stale
