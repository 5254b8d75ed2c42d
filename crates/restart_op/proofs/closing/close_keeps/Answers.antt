use Rattle.restart_op.proofs.closes.CloseAlong.{changes_state_alone}
use Rattle.restart_op.proofs.closes.CloseKeeping.{close_keeps, close_settles, close_marks, close_keeps_structure}
use Rattle.restart_op.proofs.closing.close_keeps.Goals as goal

pub returns-clause-cuts : goal.returns-clause-cuts
returns-clause-cuts c = close_keeps

pub returns-clause-ends : goal.returns-clause-ends
returns-clause-ends c = close_settles

pub returns-clause-marks : goal.returns-clause-marks
returns-clause-marks c = close_marks

pub returns-clause-structure : goal.returns-clause-structure
returns-clause-structure c = close_keeps_structure

pub returns-clause-others : goal.returns-clause-others
returns-clause-others c = changes_state_alone
