use Rattle.vlock.specs.Ruling.{ground_of}
use Rattle.shared_call.proofs.Tried.{tried_off, tried_over}
use Rattle.shared_call.proofs.tries.try_on.Goals as goal

pub returns-in-Cut-clause-tried : goal.returns-in-Cut-clause-tried
returns-in-Cut-clause-tried g c =
    tried_off c.attempts_have_laws.ensures (ground_of c.args.image.now.key) c.args.site.now c.args.call c.requires.table.1.ground c.requires.site.0 c.requires.site.1 c.requires.call
    c.args.most c.args.engine.now c.args.seat.now.me.0 _ _ _ _ _ c.in-Cut.ensures.gone

pub returns-in-Over-clause-tried : goal.returns-in-Over-clause-tried
returns-in-Over-clause-tried g c =
    tried_over c.attempts_have_laws.ensures (ground_of c.args.image.now.key) c.args.site.now c.args.call c.requires.table.1.ground c.requires.site.0 c.requires.site.1 c.requires.call
    c.args.most c.args.engine.now c.args.seat.now.me.0 _ _ _ _ _ c.requires.trying _ _ _ c.in-Over.ensures.gone c.end-end.ensures c.renew.ensures c.answer_of.ensures
