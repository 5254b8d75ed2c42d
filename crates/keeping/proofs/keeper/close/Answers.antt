-- A close goes on event by event, and at its end all has settled.
use Rattle.std.proofs.Common.{sym, ◌∙◌}
use Rattle.keeping.proofs.Pictures.{pairs_kept}
use Rattle.keeping.proofs.Marking.{closes_on, close_may, closed_from, marker_set, others_closed, settled_all, image_is, sound_closed, clean_closed}
use Rattle.keeping.proofs.keeper.close.Goals as goal

pub returns-in-Done-clause-marked : goal.returns-in-Done-clause-marked
returns-in-Done-clause-marked c =
    marker_set c.args.device.now c.loop-want.device c.loop-want.op c.loop-want.invariant (sym c.want.ensures ∙ c.in-Done.is) c.requires.traced

pub returns-in-Done-clause-others : goal.returns-in-Done-clause-others
returns-in-Done-clause-others c =
    others_closed c.args.device.now c.loop-want.device c.loop-want.op c.loop-want.invariant (sym c.want.ensures ∙ c.in-Done.is) c.requires.traced

pub returns-in-Done-clause-image : goal.returns-in-Done-clause-image
returns-in-Done-clause-image c =
    image_is c.args.device.now c.loop-want.device c.loop-want.op c.loop-want.invariant (sym c.want.ensures ∙ c.in-Done.is) c.requires.traced

pub returns-in-Done-clause-pairs : goal.returns-in-Done-clause-pairs
returns-in-Done-clause-pairs c =
    pairs_kept c.args.device.now c.loop-want.device c.loop-want.invariant.shape
    (others_closed c.args.device.now c.loop-want.device c.loop-want.op c.loop-want.invariant (sym c.want.ensures ∙ c.in-Done.is) c.requires.traced)

pub returns-in-Done-clause-settled : goal.returns-in-Done-clause-settled
returns-in-Done-clause-settled c =
    settled_all c.args.device.now c.loop-want.device c.loop-want.op c.loop-want.invariant (sym c.want.ensures ∙ c.in-Done.is) c.requires.traced

pub returns-in-Done-clause-sound : goal.returns-in-Done-clause-sound
returns-in-Done-clause-sound c =
    sound_closed c.args.device.now c.loop-want.device c.loop-want.op c.loop-want.invariant (sym c.want.ensures ∙ c.in-Done.is) c.requires.traced
    c.requires.sound

pub returns-in-Done-clause-clean : goal.returns-in-Done-clause-clean
returns-in-Done-clause-clean c =
    clean_closed c.args.device.now c.loop-want.device c.loop-want.op c.loop-want.invariant (sym c.want.ensures ∙ c.in-Done.is) c.requires.traced

pub returns-in-Done-clause-follows : goal.returns-in-Done-clause-follows
returns-in-Done-clause-follows c =
    closed_from c.args.device.now c.loop-want.device c.loop-want.op c.loop-want.invariant (sym c.want.ensures ∙ c.in-Done.is)

pub do_event-ans-requires : goal.do_event-ans-requires
do_event-ans-requires c =
    close_may c.args.device.now c.requires.traced c.requires.fenced c.loop-want.device c.loop-want.op c.loop-want.invariant c.want.result
    c.want.ensures (λ done. c.in_default.not-Done done)

pub loop-want-preserved : goal.loop-want-preserved
loop-want-preserved c =
    closes_on c.args.device.now c.loop-want.device c.do_event-ans.new.device c.loop-want.op c.take.new.self c.want.result c.do_event-ans.result
    c.loop-want.invariant c.want.ensures
    (record {
      answer = c.do_event-ans.ensures.answer;
      follows = c.do_event-ans.ensures.follows;
      shape = c.do_event-ans.ensures.shape;
      callers = c.do_event-ans.ensures.callers;
    })
    c.take.ensures
