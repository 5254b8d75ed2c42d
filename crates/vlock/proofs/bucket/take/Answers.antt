use Rattle.std.proofs.Common.{ℕ, arith, refl, sym, ap, subst}
use Rattle.op_core.specs.declared.want.Want.TheVariants.{Exchange}
use Rattle.vlock.specs.declared.bucket.LockReply.TheVariants.{Locked}
use Rattle.vlock.specs.Ruling.{ground_of}
use Rattle.vlock.specs.Buckets.{LockSays, TakeTook}
use Rattle.vlock.proofs.Noting.{odd_of, even_of, won, lost, won_took, lost_took}
use Rattle.vlock.proofs.bucket.take.Goals as goal

pub event-requires-clause-acting : goal.event-requires-clause-acting
event-requires-clause-acting c =
    let fits = c.ranges.free.fits in
    let even = c.requires.free.0 in
    let taken = c.locked.ensures in
    (refl, ap (λ (n : ℕ). Exchange c.args.lock c.args.free n) (omega (arith, fits, even, taken)))

pub returns-in-Won-clause-lock : goal.returns-in-Won-clause-lock
returns-in-Won-clause-lock c =
    let fits = c.ranges.free.fits in
    subst (λ (n : ℕ). LockSays (ground_of c.args.image.now.key) c.args.lock c.args.seat.now.me.0.view (Locked n) c.event.new.seat.me.0.view) (sym c.lock_version.ensures)
    (won (ground_of c.args.image.now.key) c.args.lock c.args.free c.args.seat.now.me.0 _ c.requires.free.0 c.requires.free.1 (omega (arith, fits)) c.in-Won.ensures.view)

pub returns-then-is_locked-clause-lock : goal.returns-then-is_locked-clause-lock
returns-then-is_locked-clause-lock c =
    let l = lost (ground_of c.args.image.now.key) c.args.lock c.args.free c.in-Lost.seen c.args.seat.now.me.0 _ c.in-Lost.ensures.view in
    (l.0, odd_of c.in-Lost.seen c.if-is_locked.ensures, l.2)

pub returns-else-is_locked-clause-lock : goal.returns-else-is_locked-clause-lock
returns-else-is_locked-clause-lock c =
    let l = lost (ground_of c.args.image.now.key) c.args.lock c.args.free c.in-Lost.seen c.args.seat.now.me.0 _ c.in-Lost.ensures.view in
    (l.0, l.1, c.requires.free.0, even_of c.in-Lost.seen c.if-is_locked.ensures, c.requires.free.2, l.2)

pub returns-in-Won-clause-events : goal.returns-in-Won-clause-events
returns-in-Won-clause-events c =
    subst (λ (n : ℕ). TakeTook c.args.lock c.args.free c.args.seat.now.me.0.took (Locked n) c.event.new.seat.me.0.took) (sym c.lock_version.ensures)
    (won_took (ground_of c.args.image.now.key) c.args.lock c.args.free c.args.seat.now.me.0 _ c.requires.free.0 c.in-Won.ensures.view)

pub returns-then-is_locked-clause-events : goal.returns-then-is_locked-clause-events
returns-then-is_locked-clause-events c = (
  odd_of c.in-Lost.seen c.if-is_locked.ensures,
  lost_took (ground_of c.args.image.now.key) c.args.lock c.args.free c.in-Lost.seen c.args.seat.now.me.0 _ c.in-Lost.ensures.view,
)

pub returns-else-is_locked-clause-events : goal.returns-else-is_locked-clause-events
returns-else-is_locked-clause-events c = (refl, lost_took (ground_of c.args.image.now.key) c.args.lock c.args.free c.in-Lost.seen c.args.seat.now.me.0 _ c.in-Lost.ensures.view)
