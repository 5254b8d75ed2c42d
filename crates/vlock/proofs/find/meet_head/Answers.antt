use Rattle.std.proofs.Common.{ℕ, ◌∙◌, ap, subst}
use Rattle.image_layout.specs.Places.{Shape, header_word}
use Rattle.world.specs.Kinds.{meets_head}
use Rattle.world.specs.StepKinds.{of_call}
use Rattle.vlock.specs.Ruling.{ground_of}
use Rattle.vlock.specs.Buckets.{Loads}
use Rattle.vlock.proofs.Found.{head_live}
use Rattle.vlock.proofs.find.meet_head.Goals as goal

pub returns-clause-view : goal.returns-clause-view
returns-clause-view c =
    let at = c.header_word-head.ensures.is ∙ ap (λ (g : Shape). header_word g c.args.segment) c.requires.geometry in
    subst (λ (n : ℕ). Loads (ground_of c.args.image.now.key) n (λ m. of_call (meets_head c.args.segment c.args.version)) c.args.seat.now.me.0 c.load.result c.load.new.seat.me.0) at c.load.ensures.view

pub returns-clause-live : goal.returns-clause-live
returns-clause-live c = head_live (ground_of c.args.image.now.key) c.args.seat.now.me.0.view c.args.segment _ c.requires.known (returns-clause-view c).1
