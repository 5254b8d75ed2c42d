use Rattle.std.proofs.Common.{ℕ, refl, ap, arith}
use Rattle.op_core.specs.declared.want.Want.TheVariants.{Store}
use Rattle.vlock.specs.Ruling.{ground_of}
use Rattle.vlock.proofs.Noting.{peeked, gives, given}
use Rattle.vlock.proofs.bucket.unlock.Goals as goal

pub event-requires-clause-acting : goal.event-requires-clause-acting
event-requires-clause-acting c =
    let known = peeked (ground_of c.args.image.now.key) c.args.lock _ c.args.seat.now.me.0 _ c.requires.held c.peek-held.ensures.view in
    let fits = c.requires.held.fits in
    let next = c.unlocked.ensures in
    (refl, ap (λ (n : ℕ). Store c.args.lock n) (omega (arith, known, fits, next)))

pub event-requires-clause-may : goal.event-requires-clause-may
event-requires-clause-may c = gives (ground_of c.args.image.now.key) c.args.lock _ c.args.seat.now.me.0 _ c.requires.lock.1 c.requires.held c.peek-held.ensures.view

pub returns-clause-view : goal.returns-clause-view
returns-clause-view c = given (ground_of c.args.image.now.key) c.args.lock _ c.args.seat.now.me.0 _ _ _ c.requires.held c.peek-held.ensures.view c.event.ensures.view
