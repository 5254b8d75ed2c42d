use Rattle.std.proofs.Common.{◌≡◌, ◌≢◌, rules}
use Rattle.op_core.specs.declared.want.Want.TheVariants.{Done}
use Rattle.engine.specs.Engine.{wanted}
use Rattle.vlock.specs.Ruling.{ground_of}
use Rattle.shared_call.proofs.Gating.{lets_begin, lets_on, let_through, cut_off}
use Rattle.shared_call.proofs.gated.attempt_gated.Goals as goal

pub loop-headway-init : goal.loop-headway-init
loop-headway-init g c = record {
  table = c.requires.table;
  letting = lets_begin c.attempts_have_laws.ensures (ground_of c.args.image.now.key) c.args.site c.args.call c.requires.table.1.ground c.requires.site.0 c.requires.site.1 c.requires.call
      c.args.seat.now.me.0 c.requires.view.0 c.requires.view.1 _ _ _ c.of-engine.ensures;
}

pub loop-headway-preserved : goal.loop-headway-preserved
loop-headway-preserved g c =
    let asks : wanted c.loop-headway.engine ≢ Done = search rules in
    record {
      table = c.turn.ensures.table;
      letting = lets_on c.attempts_have_laws.ensures (ground_of c.args.image.now.key) c.args.site c.args.call c.requires.table.1.ground c.requires.site.0 c.requires.site.1 c.requires.call
          c.args.seat.now.me.0 c.requires.view.0 c.requires.view.1 _ _ _ _ _ _ _ _ _ asks c.loop-headway.invariant.letting c.in-On.ensures.left c.in-On.ensures.cuts c.turn.ensures.turns;
    }

pub returns-in-Off-clause-came : goal.returns-in-Off-clause-came
returns-in-Off-clause-came g c =
    let asks : wanted c.loop-headway.engine ≢ Done = search rules in
    cut_off c.attempts_have_laws.ensures (ground_of c.args.image.now.key) c.args.site c.args.call c.requires.table.1.ground c.requires.site.0 c.requires.site.1 c.requires.call
    c.args.seat.now.me.0 c.requires.view.0 c.requires.view.1 _ _ _ _ _ _ _ asks c.loop-headway.invariant.letting c.in-Off.ensures.left c.in-Off.ensures.cuts

pub returns-clause-came : goal.returns-clause-came
returns-clause-came g c =
    let done : wanted c.loop-headway.engine ≡ Done = search rules in
    let_through c.attempts_have_laws.ensures (ground_of c.args.image.now.key) c.args.site c.args.call c.requires.table.1.ground c.requires.site.0 c.requires.site.1 c.requires.call
    c.args.seat.now.me.0 c.requires.view.0 c.requires.view.1 _ _ _ _ _ _ c.loop-headway.invariant.letting done c.end.ensures
