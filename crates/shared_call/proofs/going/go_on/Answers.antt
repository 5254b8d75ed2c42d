use Rattle.std.proofs.Common.{◌≡◌, ◌≢◌, ◌≤◌, [], ◌∷◌, rules}
use Rattle.op_core.specs.declared.want.Want.TheVariants.{Done}
use Rattle.engine.specs.Engine.{wanted}
use Rattle.vlock.specs.Ruling.{ground_of}
use Rattle.shared_call.proofs.Headways.{headway_of_none, headway_on}
use Rattle.shared_call.proofs.Gating.{none_taken, runs, one_taken, over_now, left_now, cut_now_on}
use Rattle.shared_call.proofs.going.go_on.Goals as goal

pub loop-init : goal.loop-init
loop-init g c = record {
  table = c.requires.table;
  on = none_taken (ground_of c.args.image.now.key) c.args.engine.now c.args.seat.now.me.0 _ _;
  headway = headway_of_none c.args.seat.now.me.0 c.args.headway.now;
}

pub returns-then-wants_nothing-clause-gone : goal.returns-then-wants_nothing-clause-gone
returns-then-wants_nothing-clause-gone g c =
    over_now (ground_of c.args.image.now.key) c.args.engine.now c.args.seat.now.me.0 _ c.loop.counter c.args.most c.loop.engine _ _ _ (search rules) c.loop.invariant.on (search rules)

pub turn-requires-clause-suits : goal.turn-requires-clause-suits
turn-requires-clause-suits g c =
    let asks : wanted c.loop.engine ≢ Done = search rules in
    runs (ground_of c.args.image.now.key) c.args.engine.now c.args.seat.now.me.0 _ c.attempts_have_laws.ensures _ _ _ _ _ c.requires.going c.loop.invariant.on asks

pub returns-in-Off-clause-gone : goal.returns-in-Off-clause-gone
returns-in-Off-clause-gone g c =
    let few : c.loop.counter ≤ c.args.most = search rules in
    let asks : wanted c.loop.engine ≢ Done = search rules in
    cut_now_on (ground_of c.args.image.now.key) c.args.engine.now c.args.seat.now.me.0 _ _ _ _ _ _ _ _ _ few c.loop.invariant.on asks c.in-Off.ensures.left c.in-Off.ensures.cuts

pub loop-preserved : goal.loop-preserved
loop-preserved g c =
    let asks : wanted c.loop.engine ≢ Done = search rules in
    record {
      table = c.turn.ensures.table;
      on = one_taken (ground_of c.args.image.now.key) c.args.engine.now c.args.seat.now.me.0 _ c.attempts_have_laws.ensures _ _ _ _ _ _ _ _ _ asks c.loop.invariant.on c.in-On.ensures.left
          c.in-On.ensures.cuts c.turn.ensures.turns;
      headway = headway_on c.args.seat.now.me.0 c.loop.seat.me.0 c.turn.new.seat.me.0 c.args.headway.now c.loop.headway c.turn.new.headway c.loop.invariant.on.taking.events ((wanted c.loop.engine, c.turn.ensures.turns.found) ∷ []) c.loop.invariant.on.taking.took
          c.turn.ensures.turns.took c.loop.invariant.headway c.turn.ensures.headway;
    }

pub returns-then-wants_nothing-2-clause-gone : goal.returns-then-wants_nothing-2-clause-gone
returns-then-wants_nothing-2-clause-gone g c =
    over_now (ground_of c.args.image.now.key) c.args.engine.now c.args.seat.now.me.0 _ c.loop.counter c.args.most c.loop.engine _ _ _ (search rules) c.loop.invariant.on (search rules)

pub returns-else-wants_nothing-2-clause-gone : goal.returns-else-wants_nothing-2-clause-gone
returns-else-wants_nothing-2-clause-gone g c =
    let all : c.loop.counter ≡ c.args.most = search rules in
    let asks : wanted c.loop.engine ≢ Done = search rules in
    left_now (ground_of c.args.image.now.key) c.args.engine.now c.args.seat.now.me.0 _ _ _ _ _ _ _ all c.loop.invariant.on asks
