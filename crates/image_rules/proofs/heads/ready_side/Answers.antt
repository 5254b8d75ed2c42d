-- Where the link names no slot, there is no ready side.
use Rattle.std.proofs.Common.{◌∙◌}
use Rattle.image_rules.proofs.heads.ready_side.Goals as goal

pub returns-then-state_of-ne-SPLITTING-clause-none : goal.returns-then-state_of-ne-SPLITTING-clause-none
returns-then-state_of-ne-SPLITTING-clause-none c side = c.if-state_of-ne-SPLITTING.true (c.state_of.ensures ∙ side.1.splits)

pub returns-in_default-clause-none : goal.returns-in_default-clause-none
returns-in_default-clause-none c side = c.in_default.ensures.none side.0 (record { named = side.1.named; slot = side.1.slot })
