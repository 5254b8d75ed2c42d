use Rattle.play.proofs.driven.RunStateParts.{restart_left}
use Rattle.play.proofs.run_state.RunState.do_restart_deed.Goals as goal

pub returns : goal.returns
returns c t s is none =
    restart_left t c.args.self.now c.continue_restart.new.self c.do_event.new.device s c.args.op c.take.new.self c.want-want.result c.do_event.result is none
    (record { answer = c.do_event.ensures.answer; follows = c.do_event.ensures.follows; shape = c.do_event.ensures.shape; callers = c.do_event.ensures.callers })
    c.want-want.ensures c.take.ensures c.continue_restart.ensures.device c.continue_restart.ensures.keeper c.continue_restart.ensures.callers c.continue_restart.ensures.lists
