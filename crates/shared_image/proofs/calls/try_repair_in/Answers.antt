use Rattle.std.proofs.Common.{sym, subst}
use Rattle.shared_call.specs.Engines.{Engine}
use Rattle.shared_call.specs.Tries.{IsTrying}
use Rattle.shared_image.specs.Powered.{ground_in}
use Rattle.shared_image.specs.Calling.{HasGoneOnTrying}
use Rattle.shared_image.proofs.calls.try_repair_in.Goals as goal

pub next_try-requires-clause-trying : goal.next_try-requires-clause-trying
next_try-requires-clause-trying g c = λ on.
    subst (λ (e : Engine). IsTrying (ground_in c.args.image.now) c.args.site.now c.args.call e c.args.pass.now.me.0) (sym c.requires.engine)
    (c.attempts_begin_and_end.ensures.repairs (ground_in c.args.image.now) c.args.site.now c.args.call c.args.segment c.args.pass.now.me.0 c.requires.site.shape c.requires.site.version
    c.requires.site.number (c.requires.rests on).0 (c.requires.rests on).1 (c.requires.known on))

pub returns-clause-tried : goal.returns-clause-tried
returns-clause-tried g c =
    subst (λ (e : Engine). HasGoneOnTrying (ground_in c.args.image.now) c.args.site.now c.args.call c.args.most c.args.off.now e c.args.pass.now.me.0 (g.G.Gate.left c.args.gate.now)
    (g.G.Gate.cuts c.args.gate.now) c.next_try.result c.next_try.new.engine c.next_try.new.pass.me.0 (g.G.Gate.left c.next_try.new.gate) (g.G.Gate.cuts c.next_try.new.gate)) c.requires.engine c.next_try.ensures.tried
