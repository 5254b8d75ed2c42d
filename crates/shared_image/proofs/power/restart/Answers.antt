-- A restart goes on event by event, and at its end has done all of them.
use Rattle.shared_image.proofs.Restarting.{asks_plain, goes_on, fewer, words_left, started_is}
use Rattle.shared_image.proofs.power.restart.Goals as goal

pub returns-in-Done-clause-words : goal.returns-in-Done-clause-words
returns-in-Done-clause-words c =
    words_left c.args.medium.now.geometry c.args.medium.now.words c.requires.sound c.loop-op.words.items c.loop-op.op c.loop-op.invariant c.end.result c.end.ensures

pub returns-in-Done-clause-started : goal.returns-in-Done-clause-started
returns-in-Done-clause-started c =
    started_is c.args.medium.now.geometry c.args.medium.now.words c.requires.sound c.loop-op.words.items c.loop-op.op c.loop-op.invariant c.end.result c.end.ensures

pub do_event-ans-requires : goal.do_event-ans-requires
do_event-ans-requires c = record {
  plain = asks_plain c.args.medium.now.geometry c.args.medium.now.words c.requires.sound c.loop-op.words.items c.loop-op.op c.loop-op.invariant c.want.result c.want.ensures (λ done. c.in_default.not-Done done);
}

pub loop-op-smaller : goal.loop-op-smaller
loop-op-smaller c =
    fewer c.args.medium.now.geometry c.args.medium.now.words c.requires.sound c.loop-op.words.items c.loop-op.op c.loop-op.invariant c.want.result c.do_event-ans.result c.take.new.self
    c.want.ensures (λ done. c.in_default.not-Done done) c.take.ensures (λ g. c.do_event-ans.ensures.answer g)

pub loop-op-preserved : goal.loop-op-preserved
loop-op-preserved c =
    goes_on c.args.medium.now.geometry c.args.medium.now.words c.requires.sound c.loop-op.words.items c.loop-op.op c.loop-op.invariant c.want.result c.do_event-ans.result
    c.do_event-ans.new.words.items c.take.new.self c.want.ensures (λ done. c.in_default.not-Done done) c.take.ensures (λ g. c.do_event-ans.ensures.answer g) (λ g. c.do_event-ans.ensures.words g)
    c.do_event-ans.ensures.length
