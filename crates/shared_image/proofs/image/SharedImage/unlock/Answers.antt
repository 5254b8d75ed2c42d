-- The lock word is the one of the bucket.
use Rattle.std.proofs.Common.{ℕ, sym, ap, subst, ◌∙◌}
use Rattle.image_layout.specs.Places.{Shape, bucket_at}
use Rattle.world.specs.Views.{Has}
use Rattle.vlock.specs.Buckets.{MayUnlock, Unlocks}
use Rattle.shared_image.specs.Powered.{ground_in}
use Rattle.shared_image.proofs.image.SharedImage.unlock.Goals as goal

pub unlock-requires-clause-lock : goal.unlock-requires-clause-lock
unlock-requires-clause-lock c =
    let lock_is = c.bucket_at-lock.ensures.is ∙ ap (λ (g : Shape). bucket_at g c.args.segment c.args.bucket) c.requires.on.laid_out in
    ((c.args.segment, c.args.bucket, c.requires.place.0, c.requires.place.1, lock_is), c.requires.caller)

pub unlock-requires-clause-held : goal.unlock-requires-clause-held
unlock-requires-clause-held c =
    let lock_is = c.bucket_at-lock.ensures.is ∙ ap (λ (g : Shape). bucket_at g c.args.segment c.args.bucket) c.requires.on.laid_out in
    subst (λ (n : ℕ). MayUnlock c.args.pass.now.me.0.view n) (sym lock_is) c.requires.held

pub returns-clause-view : goal.returns-clause-view
returns-clause-view c =
    let lock_is = c.bucket_at-lock.ensures.is ∙ ap (λ (g : Shape). bucket_at g c.args.segment c.args.bucket) c.requires.on.laid_out in
    subst (λ (n : ℕ). (x : ℕ) × Has (n, x) c.args.pass.now.me.0.view.held × Unlocks (ground_in c.args.self.now) n x c.args.pass.now.me.0 c.unlock.new.seat.me.0) lock_is c.unlock.ensures.view
