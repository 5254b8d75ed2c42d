use Rattle.std.proofs.Common.{subst}
use Rattle.engine.specs.declared.engine.Engine.{Engine}
use Rattle.engine.specs.Left.{most_of_attempt}
use Rattle.vlock.specs.Ruling.{ground_of}
use Rattle.shared_call.specs.Tries.{HasTried}
use Rattle.shared_call.proofs.Tried.{first_trying, first_tells, first_over}
use Rattle.shared_call.proofs.tries.try_call.Goals as goal

pub try_on-requires-clause-trying : goal.try_on-requires-clause-trying
try_on-requires-clause-trying g c =
    first_trying c.turns_have_laws.ensures c.attempts_have_laws.ensures (ground_of c.args.image.now.key) c.args.site.now c.args.call c.requires.table.1.ground c.requires.site.0 c.requires.site.1
    c.requires.call c.args.seat.now.me.0 c.requires.view.0 c.requires.view.1 _ c.restart.ensures

pub returns-clause-tried : goal.returns-clause-tried
returns-clause-tried g c =
    subst (λ (e : Engine). HasTried (ground_of c.args.image.now.key) c.args.site.now c.args.call most_of_attempt e c.args.seat.now.me.0 (g.G.Gate.left c.args.gate.now) c.try_on.result
    c.try_on.new.engine c.try_on.new.seat.me.0 (g.G.Gate.left c.try_on.new.gate) (g.G.Gate.cuts c.try_on.new.gate)) c.restart.ensures c.try_on.ensures.tried

pub returns-clause-tells : goal.returns-clause-tells
returns-clause-tells g c =
    first_tells c.turns_have_laws.ensures c.attempts_have_laws.ensures (ground_of c.args.image.now.key) c.args.site.now c.args.call c.requires.table.1.ground c.requires.site.0 c.requires.site.1
    c.requires.call c.args.seat.now.me.0 c.requires.view.0 c.requires.view.1 _ _ _ _ _ _ _ c.restart.ensures c.try_on.ensures.tried

pub returns-clause-over : goal.returns-clause-over
returns-clause-over g c =
    first_over c.turns_have_laws.ensures c.attempts_have_laws.ensures (ground_of c.args.image.now.key) c.args.site.now c.args.call c.requires.table.1.ground c.requires.site.0 c.requires.site.1
    c.requires.call c.args.seat.now.me.0 c.requires.view.0 c.requires.view.1 _ _ _ _ _ _ _ c.restart.ensures c.try_on.ensures.tried
