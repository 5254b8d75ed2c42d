use Rattle.std.proofs.Common.{◌≡◌, ◌≢◌, rules}
use Rattle.op_core.specs.declared.want.Want.TheVariants.{Done}
use Rattle.engine.specs.Engine.{begun, wanted}
use Rattle.engine.specs.OpPart.{calls}
use Rattle.vlock.specs.Ruling.{ground_of}
use Rattle.shared_call.proofs.Attempted.{call_begins, goes_on, attempted}
use Rattle.shared_call.proofs.attempts.attempt.Goals as goal

pub loop-headway-init : goal.loop-headway-init
loop-headway-init c = record {
  table = c.requires.table;
  going = call_begins c.attempts_have_laws.ensures (ground_of c.args.image.now.key) c.args.site c.args.call c.requires.table.1.ground c.requires.site.0 c.requires.site.1 c.requires.call
      c.args.seat.now.me.0 c.requires.view.0 c.requires.view.1 _ c.of-engine.ensures;
}

pub loop-headway-preserved : goal.loop-headway-preserved
loop-headway-preserved c =
    let asks : wanted c.loop-headway.engine ≢ Done = search rules in
    record {
      table = c.turn.ensures.table;
      going = goes_on (ground_of c.args.image.now.key) c.args.site c.args.call calls c.attempts_have_laws.ensures (begun c.args.site c.args.call) c.args.seat.now.me.0 _ _ _ _ asks
          c.loop-headway.invariant.going c.turn.ensures.turns;
    }

pub returns-clause-attempted : goal.returns-clause-attempted
returns-clause-attempted c =
    let done : wanted c.loop-headway.engine ≡ Done = search rules in
    attempted c.attempts_have_laws.ensures (ground_of c.args.image.now.key) c.args.site c.args.call c.requires.table.1.ground c.requires.site.0 c.requires.site.1 c.requires.call c.args.seat.now.me.0
    c.requires.view.0 c.requires.view.1 _ _ _ c.loop-headway.invariant.going done c.end.ensures
