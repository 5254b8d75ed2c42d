-- A bucket of the stash keeps no notes.
use Rattle.std.proofs.Common.{refl, arith}
use Rattle.image_rules.proofs.repaired.has_its_notes.Goals as goal

pub returns-then-b-ge-HOMES : goal.returns-then-b-ge-HOMES
returns-then-b-ge-HOMES c = ((λ _ below. absurd (omega (arith, below, c.if-b-ge-HOMES.true))), (λ _. refl))

pub returns : goal.returns
returns c = ((λ exact _. c.has_exact_notes.ensures.0 exact), (λ exact. c.has_exact_notes.ensures.1 (exact c.if-b-ge-HOMES.false)))
