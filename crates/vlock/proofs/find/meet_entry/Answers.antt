use Rattle.std.proofs.Common.{ℕ, subst}
use Rattle.world.specs.Kinds.{meets_entry}
use Rattle.world.specs.StepKinds.{of_call}
use Rattle.vlock.specs.Ruling.{ground_of}
use Rattle.vlock.specs.Buckets.{Loads}
use Rattle.vlock.proofs.Found.{entry_within}
use Rattle.vlock.proofs.find.meet_entry.Goals as goal

pub returns-clause-view : goal.returns-clause-view
returns-clause-view c = subst (λ (n : ℕ). Loads (ground_of c.args.image.now.key) n (λ m. of_call (meets_entry c.args.depth c.args.index)) c.args.seat.now.me.0 c.load.result c.load.new.seat.me.0) c.entry_at-entry.ensures.is c.load.ensures.view

pub returns-clause-within : goal.returns-clause-within
returns-clause-within c = entry_within (ground_of c.args.image.now.key) c.args.seat.now.me.0.view c.args.depth c.args.index _ c.requires.known c.requires.place.1 (returns-clause-view c).1
