-- The lock word is the one of the bucket.
use Rattle.std.proofs.Common.{ℕ, ap, subst, ◌∙◌}
use Rattle.image_layout.specs.Places.{Shape, bucket_at}
use Rattle.vlock.specs.Buckets.{LockSays, LockTook}
use Rattle.shared_image.specs.Powered.{ground_in}
use Rattle.shared_image.proofs.image.SharedImage.try_lock.Goals as goal

pub try_lock-requires-clause-lock : goal.try_lock-requires-clause-lock
try_lock-requires-clause-lock c =
    let lock_is = c.bucket_at-lock.ensures.is ∙ ap (λ (g : Shape). bucket_at g c.args.segment c.args.bucket) c.requires.on.laid_out in
    ((c.args.segment, c.args.bucket, c.requires.place.0, c.requires.place.1, lock_is, c.requires.known.0, c.requires.known.1), c.requires.caller)

pub returns-clause-lock : goal.returns-clause-lock
returns-clause-lock c =
    let lock_is = c.bucket_at-lock.ensures.is ∙ ap (λ (g : Shape). bucket_at g c.args.segment c.args.bucket) c.requires.on.laid_out in
    subst (λ (n : ℕ). LockSays (ground_in c.args.self.now) n c.args.pass.now.me.0.view c.try_lock.result c.try_lock.new.seat.me.0.view) lock_is c.try_lock.ensures.lock

pub returns-clause-events : goal.returns-clause-events
returns-clause-events c =
    let lock_is = c.bucket_at-lock.ensures.is ∙ ap (λ (g : Shape). bucket_at g c.args.segment c.args.bucket) c.requires.on.laid_out in
    subst (λ (n : ℕ). LockTook n c.args.pass.now.me.0.took c.try_lock.result c.try_lock.new.seat.me.0.took) lock_is c.try_lock.ensures.events
