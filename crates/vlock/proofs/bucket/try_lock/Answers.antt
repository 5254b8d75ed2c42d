use Rattle.std.proofs.Common.{sym, subst, arith, inl, ◌∙◌, ap, ℕ, ◌∷◌}
use Rattle.op_core.specs.declared.want.Want.TheVariants.{Load}
use Rattle.world.specs.Views.{View}
use Rattle.world.specs.Kinds.{meets_lock}
use Rattle.world.specs.StepKinds.{of_call}
use Rattle.world.specs.Conditions.{IsKnownLock}
use Rattle.vlock.specs.Ruling.{ground_of}
use Rattle.vlock.specs.Buckets.{MayCall, LockSays, WasAt}
use Rattle.vlock.proofs.Noting.{odd_of, even_of, was_at, met_leaves, met_spent, looked_once, took_behind}
use Rattle.vlock.proofs.bucket.try_lock.Goals as goal

pub take-requires-clause-lock : goal.take-requires-clause-lock
take-requires-clause-lock c =
    let e = met_leaves (ground_of c.args.image.now.key) c.args.lock c.meet-free.result c.args.seat.now.me.0 _ c.meet-free.ensures.view c.if-free.false in
    subst (λ (v : View). IsKnownLock (ground_of c.args.image.now.key) v c.args.lock × MayCall v) (sym e) c.requires.lock

pub take-requires-clause-free : goal.take-requires-clause-free
take-requires-clause-free c =
    let e = met_leaves (ground_of c.args.image.now.key) c.args.lock c.meet-free.result c.args.seat.now.me.0 _ c.meet-free.ensures.view c.if-free.false in
    let was = was_at (ground_of c.args.image.now.key) c.args.lock c.meet-free.result (λ n. of_call (meets_lock c.args.lock)) c.args.seat.now.me.0 _ c.meet-free.ensures.view in
    (even_of c.meet-free.result c.if-is_locked.ensures, c.if-free.false, subst (λ (v : View). WasAt (ground_of c.args.image.now.key) v c.args.lock c.meet-free.result) (sym e) was)

pub returns-then-is_locked-clause-lock : goal.returns-then-is_locked-clause-lock
returns-then-is_locked-clause-lock c =
    let odd = odd_of c.meet-free.result c.if-is_locked.ensures in (
      met_leaves (ground_of c.args.image.now.key) c.args.lock c.meet-free.result c.args.seat.now.me.0 _ c.meet-free.ensures.view (λ e. (omega (arith, e, odd))),
      odd,
      was_at (ground_of c.args.image.now.key) c.args.lock c.meet-free.result (λ n. of_call (meets_lock c.args.lock)) c.args.seat.now.me.0 _ c.meet-free.ensures.view,
    )

pub returns-then-free-clause-lock : goal.returns-then-free-clause-lock
returns-then-free-clause-lock c = (
  met_spent (ground_of c.args.image.now.key) c.args.lock c.meet-free.result c.args.seat.now.me.0 _ c.meet-free.ensures.view c.if-free.true,
  subst (λ (n : _). WasAt (ground_of c.args.image.now.key) c.args.seat.now.me.0.view c.args.lock n) c.if-free.true
      (was_at (ground_of c.args.image.now.key) c.args.lock c.meet-free.result (λ n. of_call (meets_lock c.args.lock)) c.args.seat.now.me.0 _ c.meet-free.ensures.view),
)

pub returns-else-free-clause-lock : goal.returns-else-free-clause-lock
returns-else-free-clause-lock c =
    let e = met_leaves (ground_of c.args.image.now.key) c.args.lock c.meet-free.result c.args.seat.now.me.0 _ c.meet-free.ensures.view c.if-free.false in
    subst (λ (v : View). LockSays (ground_of c.args.image.now.key) c.args.lock v c.take.result c.take.new.seat.me.0.view) e c.take.ensures.lock

pub returns-then-is_locked-clause-events : goal.returns-then-is_locked-clause-events
returns-then-is_locked-clause-events c = (
  odd_of c.meet-free.result c.if-is_locked.ensures,
  inl (looked_once (ground_of c.args.image.now.key) c.args.lock c.meet-free.result (λ n. of_call (meets_lock c.args.lock)) c.args.seat.now.me.0 _ c.meet-free.ensures.view),
)

pub returns-then-free-clause-events : goal.returns-then-free-clause-events
returns-then-free-clause-events c =
    looked_once (ground_of c.args.image.now.key) c.args.lock c.meet-free.result (λ n. of_call (meets_lock c.args.lock)) c.args.seat.now.me.0 _ c.meet-free.ensures.view
    ∙ ap (λ (n : ℕ). (Load c.args.lock, n) ∷ c.args.seat.now.me.0.took) c.if-free.true

pub returns-else-free-clause-events : goal.returns-else-free-clause-events
returns-else-free-clause-events c =
    took_behind c.args.lock c.meet-free.result c.take.result c.args.seat.now.me.0.took c.meet-free.new.seat.me.0.took c.take.new.seat.me.0.took (even_of c.meet-free.result c.if-is_locked.ensures) c.if-free.false
    (looked_once (ground_of c.args.image.now.key) c.args.lock c.meet-free.result (λ n. of_call (meets_lock c.args.lock)) c.args.seat.now.me.0 _ c.meet-free.ensures.view) c.take.ensures.events
