use Rattle.shared_call.proofs.Attempted.{begins_going, ends_over, begins_repairing}
use Rattle.shared_call.proofs.laws.attempts_begin_and_end.Goals as goal

pub returns-clause-begins : goal.returns-clause-begins
returns-clause-begins c = begins_going c.attempts_have_laws.ensures

pub returns-clause-ends : goal.returns-clause-ends
returns-clause-ends c = ends_over c.attempts_have_laws.ensures

pub returns-clause-repairs : goal.returns-clause-repairs
returns-clause-repairs c = begins_repairing c.attempts_have_laws.ensures
