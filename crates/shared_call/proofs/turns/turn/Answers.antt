use Rattle.std.proofs.Common.{ap}
use Rattle.engine.specs.Engine.{wanted}
use Rattle.vlock.specs.Ruling.{ground_of}
use Rattle.vlock.specs.declared.knows.Watch.{Watch}
use Rattle.shared_call.proofs.Headways.{headway_of_one}
use Rattle.shared_call.proofs.Turned.{may_do, within, turned}
use Rattle.shared_call.proofs.turns.turn.Goals as goal

pub event-ans-requires-clause-may : goal.event-ans-requires-clause-may
event-ans-requires-clause-may c = may_do c.turns_have_laws.ensures (ground_of c.args.image.now.key) c.args.engine.now c.args.seat.now.me.0.view c.requires.suits

pub event-ans-requires-clause-word : goal.event-ans-requires-clause-word
event-ans-requires-clause-word c =
    within c.turns_have_laws.ensures (ground_of c.args.image.now.key) c.args.engine.now c.args.seat.now.me.0.view _ c.next-want.ensures c.requires.table.1.ground c.requires.suits

pub returns-clause-turns : goal.returns-clause-turns
returns-clause-turns c =
    turned c.turns_have_laws.ensures (ground_of c.args.image.now.key) c.args.engine.now c.args.seat.now.me.0 _ _ _ c.requires.suits c.event-ans.ensures.view c.take.ensures

pub returns-clause-headway : goal.returns-clause-headway
returns-clause-headway c =
    headway_of_one c.args.seat.now.me.0 c.event-ans.new.seat.me.0 c.args.headway.now c.add.new.self (wanted c.args.engine.now) c.event-ans.ensures.view.0 c.event-ans.result (ap (λ (x : Watch). x.took) c.event-ans.ensures.view.2.0) c.event-ans.ensures.view.1 c.add.ensures
