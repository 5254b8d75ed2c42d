-- A restart goes on event by event, and at its end has done all of them.
use Rattle.keeping.proofs.Reopened.{restart_may, restarts_on, leaves_is, has_left, settled_again, none_waits, restarted_from, some_version, sound_again, pairs_again}
use Rattle.keeping.proofs.keeper.restart.Goals as goal

pub returns-in-Done-clause-started : goal.returns-in-Done-clause-started
returns-in-Done-clause-started g c =
    leaves_is c.args.device.now c.requires.sound c.requires.traced c.requires.settled c.requires.fenced c.loop-op.device c.args.steps.now c.loop-op.steps c.loop-op.op
    c.loop-op.invariant c.end.result c.end.ensures

pub returns-in-Done-clause-version : goal.returns-in-Done-clause-version
returns-in-Done-clause-version g c =
    some_version c.args.device.now c.requires.sound c.requires.traced c.requires.settled c.requires.fenced c.loop-op.device c.args.steps.now c.loop-op.steps c.loop-op.op
    c.loop-op.invariant c.end.result c.end.ensures

pub returns-in-Done-clause-words : goal.returns-in-Done-clause-words
returns-in-Done-clause-words g c =
    has_left c.args.device.now c.requires.sound c.requires.traced c.requires.settled c.requires.fenced c.loop-op.device c.args.steps.now c.loop-op.steps c.loop-op.op
    c.loop-op.invariant c.end.result c.end.ensures

pub returns-in-Done-clause-pairs : goal.returns-in-Done-clause-pairs
returns-in-Done-clause-pairs g c =
    pairs_again c.args.device.now c.requires.sound c.requires.traced c.requires.settled c.requires.fenced c.loop-op.device c.args.steps.now c.loop-op.steps c.loop-op.op
    c.loop-op.invariant c.end.result c.end.ensures

pub returns-in-Done-clause-sound : goal.returns-in-Done-clause-sound
returns-in-Done-clause-sound g c =
    sound_again c.args.device.now c.requires.sound c.requires.traced c.requires.settled c.requires.fenced c.loop-op.device c.args.steps.now c.loop-op.steps c.loop-op.op
    c.loop-op.invariant c.end.result c.end.ensures

pub returns-in-Done-clause-settled : goal.returns-in-Done-clause-settled
returns-in-Done-clause-settled g c = (
  settled_again c.args.device.now c.requires.sound c.requires.traced c.requires.settled c.requires.fenced c.loop-op.device c.args.steps.now c.loop-op.steps c.loop-op.op
      c.loop-op.invariant c.end.result c.end.ensures,
  none_waits c.args.device.now c.requires.sound c.requires.traced c.requires.settled c.requires.fenced c.loop-op.device c.args.steps.now c.loop-op.steps c.loop-op.op
      c.loop-op.invariant c.end.result c.end.ensures,
)

pub returns-in-Done-clause-follows : goal.returns-in-Done-clause-follows
returns-in-Done-clause-follows g c =
    restarted_from c.args.device.now c.requires.sound c.requires.traced c.requires.settled c.requires.fenced c.loop-op.device c.args.steps.now c.loop-op.steps c.loop-op.op
    c.loop-op.invariant c.end.result c.end.ensures

pub do_event-ans-requires : goal.do_event-ans-requires
do_event-ans-requires g c =
    restart_may c.args.device.now c.requires.sound c.requires.traced c.requires.settled c.requires.fenced c.loop-op.device c.args.steps.now c.loop-op.steps c.loop-op.op
    c.loop-op.invariant c.want.result c.want.ensures (λ done. c.in_default.not-Done done)

pub loop-op-preserved : goal.loop-op-preserved
loop-op-preserved g c =
    restarts_on c.args.device.now c.requires.sound c.requires.traced c.requires.settled c.requires.fenced c.loop-op.device c.args.steps.now c.loop-op.steps c.loop-op.op
    c.loop-op.invariant c.do_event-ans.new.device c.want.result c.do_event-ans.result c.want.ensures (λ done. c.in_default.not-Done done)
    (record {
      answer = c.do_event-ans.ensures.answer;
      follows = c.do_event-ans.ensures.follows;
      shape = c.do_event-ans.ensures.shape;
      callers = c.do_event-ans.ensures.callers;
    })
    c.take.new.self c.count.new.steps c.count.ensures c.take.ensures
