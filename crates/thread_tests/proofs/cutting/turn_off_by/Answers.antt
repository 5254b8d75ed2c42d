use Rattle.std.proofs.Common.{◌<◌, sym, subst}
use Rattle.thread_tests.proofs.cutting.turn_off_by.Goals as goal

pub turn_off-requires-clause-callers : goal.turn_off-requires-clause-callers
turn_off-requires-clause-callers c = subst (λ pass. 0 < pass.me.0.view.callers) (sym c.new-caller.ensures.parts.0) c.requires.rests.1
