-- The set has the slots with a record that are a member's.
use Rattle.std.proofs.Common.{inl, inr, arith}
use Rattle.std.proofs.lemmas.Nat.{and_le_l}
use Rattle.std.proofs.lemmas.Option.{IfSome_then}
use Rattle.displace.proofs.Sets.{has_room, in_both, not_in_both, outside_both}
use Rattle.displace.proofs.victim.backward.Goals as goal

pub lowest-requires : goal.lowest-requires
lowest-requires c = omega (arith, and_le_l)

pub returns-clause-room : goal.returns-clause-room
returns-clause-room c = has_room c.lowest.result c.filled.result c.args.prev.now.alloc c.lowest.ensures.within c.filled.ensures.count c.filled.ensures.at_most c.if-filled-eq-SLOTS.false

pub returns-clause-allocated : goal.returns-clause-allocated
returns-clause-allocated c =
    let home = c.args.home.now in
    IfSome_then c.lowest.result c.lowest.ensures.inside (λ slot inside. (in_both home.alloc home.member slot inside).0)

pub returns-clause-member : goal.returns-clause-member
returns-clause-member c =
    let home = c.args.home.now in
    IfSome_then c.lowest.result c.lowest.ensures.inside (λ slot inside. (in_both home.alloc home.member slot inside).1)

pub returns-clause-lowest : goal.returns-clause-lowest
returns-clause-lowest c =
    let home = c.args.home.now in
    IfSome_then c.lowest.result c.lowest.ensures.lowest (λ slot none s below. not_in_both home.alloc home.member s (none s below))

pub returns-clause-none : goal.returns-clause-none
returns-clause-none c =
    let home = c.args.home.now in (
      λ e. inr (λ s low. not_in_both home.alloc home.member s (c.lowest.ensures.none.0 e s low)),
      λ why. elim why [
        | inl full ↦ absurd (c.if-filled-eq-SLOTS.false (c.filled.ensures.full.1 full))
        | inr none ↦ c.lowest.ensures.none.1 (λ s low. outside_both home.alloc home.member s (none s low))
      ],
    )
