-- Each clause is a lemma.
use Rattle.read_op.proofs.Fitting.{begins_suited, wants_by_kind, may_step}
use Rattle.read_op.proofs.Keeping.{keeps_suits}
use Rattle.read_op.proofs.laws.fits_the_world.Goals as goal

pub returns-clause-begins : goal.returns-clause-begins
returns-clause-begins c = begins_suited

pub returns-clause-wants : goal.returns-clause-wants
returns-clause-wants c = wants_by_kind

pub returns-clause-may : goal.returns-clause-may
returns-clause-may c = may_step

pub returns-clause-keeps : goal.returns-clause-keeps
returns-clause-keeps c = keeps_suits
