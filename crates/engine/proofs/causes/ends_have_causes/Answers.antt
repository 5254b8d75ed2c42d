-- What each attempt did is remembered by its engine, and each end has its cause in the world that holds.
use Rattle.engine.proofs.machines.Begins.{begins_undecided}
use Rattle.engine.proofs.attempts.Stepping.{op_stays}
use Rattle.engine.proofs.attempts.Doing.{watching}
use Rattle.engine.proofs.attempts.Deciding.{ends_have_causes}
use Rattle.engine.proofs.lonely.Others.{busy_others}
use Rattle.engine.proofs.causes.ends_have_causes.Goals as goal

pub returns-clause-begins : goal.returns-clause-begins
returns-clause-begins c = begins_undecided

pub returns-clause-stays : goal.returns-clause-stays
returns-clause-stays c = λ e a outcome some. op_stays c.attempts_have_causes.ensures.causes e.op a outcome some

pub returns-clause-ends : goal.returns-clause-ends
returns-clause-ends c = c.calls_are_parts.ensures.ends

pub returns-clause-watching : goal.returns-clause-watching
returns-clause-watching c = watching

pub returns-clause-causes : goal.returns-clause-causes
returns-clause-causes c = ends_have_causes c.attempts_have_causes.ensures c.opened_holds.ensures c.turn_keeps.ensures.one

pub returns-clause-busy : goal.returns-clause-busy
returns-clause-busy c = busy_others c.attempts_have_causes.ensures c.calls_are_parts.ensures.bare c.opened_holds.ensures c.turn_keeps.ensures.one (returns-clause-causes c)
