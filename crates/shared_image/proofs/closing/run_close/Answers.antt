-- A close goes on event by event.
use Rattle.shared_image.proofs.ClosesOn.{goes_on, fewer}
use Rattle.shared_image.proofs.closing.run_close.Goals as goal

pub loop-want-smaller : goal.loop-want-smaller
loop-want-smaller c =
    fewer c.args.geometry c.args.words.now.items c.requires.shape c.requires.whole c.loop-want.words.items c.loop-want.op c.loop-want.invariant c.want.result c.do_event-ans.result c.take.new.self
    c.want.ensures (λ done. c.in_default.not-Done done) c.take.ensures (λ g. c.do_event-ans.ensures.answer g)

pub loop-want-preserved : goal.loop-want-preserved
loop-want-preserved c =
    goes_on c.args.geometry c.args.words.now.items c.requires.shape c.requires.whole c.loop-want.words.items c.loop-want.op c.loop-want.invariant c.want.result c.do_event-ans.result
    c.do_event-ans.new.words.items c.take.new.self c.want.ensures c.take.ensures (λ g. c.do_event-ans.ensures.answer g) (λ g. c.do_event-ans.ensures.words g) c.do_event-ans.ensures.length
