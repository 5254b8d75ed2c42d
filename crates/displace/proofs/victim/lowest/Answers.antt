-- The trailing zeros of a set end at its lowest slot, and the empty set is 0.
use Rattle.std.proofs.Common.{refl, arith}
use Rattle.displace.proofs.Sets.{lowest_slot, empty_set}
use Rattle.displace.proofs.victim.lowest.Goals as goal

pub returns-else-slots-eq0-clause-within : goal.returns-else-slots-eq0-clause-within
returns-else-slots-eq0-clause-within c = (lowest_slot c.args.slots _ c.requires (omega arith) refl).0

pub returns-else-slots-eq0-clause-inside : goal.returns-else-slots-eq0-clause-inside
returns-else-slots-eq0-clause-inside c = (lowest_slot c.args.slots _ c.requires (omega arith) refl).1

pub returns-else-slots-eq0-clause-lowest : goal.returns-else-slots-eq0-clause-lowest
returns-else-slots-eq0-clause-lowest c = (lowest_slot c.args.slots _ c.requires (omega arith) refl).2

pub returns-else-slots-eq0-clause-none : goal.returns-else-slots-eq0-clause-none
returns-else-slots-eq0-clause-none c =
    (λ e. absurd (cc e), λ none. absurd (c.if-slots-eq0.false (empty_set c.args.slots c.requires none)))
