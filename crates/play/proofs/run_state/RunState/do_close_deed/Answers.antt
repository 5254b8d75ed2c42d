use Rattle.std.proofs.Common.{refl}
use Rattle.play.proofs.driven.RunStateParts.{close_left}
use Rattle.play.proofs.run_state.RunState.do_close_deed.Goals as goal

pub returns : goal.returns
returns c t s is =
    close_left t c.args.self.now _ s c.args.op c.take.new.self c.want-want.result c.do_event.result is
    (record { answer = c.do_event.ensures.answer; follows = c.do_event.ensures.follows; shape = c.do_event.ensures.shape; callers = c.do_event.ensures.callers })
    c.want-want.ensures c.take.ensures c.closing-self.ensures refl refl
