use Rattle.thread_tests.proofs.Held.{may_give_back, may_call_with}
use Rattle.thread_tests.proofs.home.take_home.Goals as goal

pub returns-in-Locked-clause-taken : goal.returns-in-Locked-clause-taken
returns-in-Locked-clause-taken c =
    let old = c.args.pass.now.me.0.view in
    let v = c.find_segment.new.pass.me.0.view in
    let w = c.try_lock.new.pass.me.0.view in (
      c.in-Found.ensures.finds.0.within,
      may_call_with old v w _ c.in-Locked.version c.find_segment.ensures.view c.in-Locked.ensures.lock.0 c.find_segment.ensures.caller.0,
      may_give_back old v w _ c.in-Locked.version c.find_segment.ensures.view c.in-Locked.ensures.lock.0 c.requires.ready.2 c.in-Locked.ensures.lock.1,
    )
